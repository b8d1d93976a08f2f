use Rattle.std.proofs.Common.{◌≡◌, ◌+◌, ◌∙◌, ap, sym, arith, Some, slice_get, drop, List}
use Rattle.bibtex_spec.specs.Places.{Place, read_all}
use Rattle.bibtex_places.proofs.Entries.{given_at, given_long, is_there}
use Rattle.bibtex_places.proofs.Reading.{any_more, any_all}
use Rattle.bibtex_places.proofs.listing.read_all.Goals as goal

pub returns-in_default : goal.returns-in_default
returns-in_default c texts are = absurd (is_there c.args.entries.now c.read.n c.read-test.true (sym c.given_at.ensures ∙ c.in_default.is))

pub read-preserved : goal.read-preserved
read-preserved c texts are =
    let at : slice_get c.args.entries.now c.read.n ≡ Some c.in-Some.one = sym c.given_at.ensures ∙ c.in-Some.is in
    let entry = given_at c.args.entries.now texts are c.read.n c.in-Some.one at in
    ap (λ (ps : List Place). read_all c.args.cited.now (c.read.n + 1) ps (drop (c.read.n + 1) texts)) (c.in_ok-read.ensures entry.0 entry.2.key)
    ∙ any_more (read_all c.args.cited.now 0 c.args.places texts) c.args.cited.now texts c.read.n entry.0 c.read.read entry.1 (c.read.invariant texts are)

pub returns : goal.returns
returns c texts are =
    let test = c.read-test.false in
    let long = given_long c.args.entries.now texts are in
    any_all (read_all c.args.cited.now 0 c.args.places texts) c.args.cited.now texts c.read.n c.read.read (omega (arith, test, long)) (c.read.invariant texts are)
