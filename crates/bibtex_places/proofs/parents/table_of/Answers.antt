use Rattle.std.proofs.Common.{◌≡◌, ◌∙◌, sym, subst, arith, take, Some, slice_get}
use Rattle.std.proofs.lemmas.List.{length-map, take_all}
use Rattle.bib_spec.specs.Records.{EntryTexts, keys_of}
use Rattle.bibtex_places.specs.KeyTables.{FindsKeys}
use Rattle.bibtex_places.proofs.Entries.{given_long, is_there}
use Rattle.bibtex_places.proofs.Reading.{keys_finds, keys_before}
use Rattle.bibtex_places.proofs.parents.table_of.Goals as goal

pub returns-in_default : goal.returns-in_default
returns-in_default c texts are = absurd (is_there c.args.entries.now c.keys.n c.keys-test.true (sym c.given_at.ensures ∙ c.in_default.is))

pub keys-preserved : goal.keys-preserved
keys-preserved c texts are =
    let at : slice_get c.args.entries.now c.keys.n ≡ Some c.in-Some.entry = sym c.given_at.ensures ∙ c.in-Some.is in
    keys_finds c.add.new.self c.args.entries.now texts c.keys.n c.in-Some.entry at are
    (c.in_ok-add.ensures.keys (take c.keys.n (keys_of texts)) (c.keys.invariant texts are) (keys_before c.args.entries.now texts c.keys.n c.in-Some.entry at are))

pub returns : goal.returns
returns c texts are =
    let test = c.keys-test.false in
    let long = given_long c.args.entries.now texts are in
    let all = length-map texts (λ (entry : EntryTexts). entry.key) in
    subst (FindsKeys c.keys.table) (take_all c.keys.n (keys_of texts) (omega (arith, test, long, all))) (c.keys.invariant texts are)
