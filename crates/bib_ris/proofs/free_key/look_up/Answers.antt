use Rattle.std.proofs.Common.{◌≡◌, ◌∙◌, ◌≤◌, ◌<◌, ◌^◌, false, length, rules, sym, subst, ap, arith}
use Rattle.bib_spec.specs.Bytes.{name_limit}
use Rattle.bib_spec.specs.Text.{Text}
use Rattle.bib_spec.specs.Records.{entries_of}
use Rattle.bib_spec.specs.MadeKeys.{candidate, is_taken}
use Rattle.bib_keys.specs.TakenKeys.{taken_in}
use Rattle.bib_keys.proofs.CandidateLengths.{candidate-short}
use Rattle.bib_keys.proofs.FirstFree.{free-found}
use Rattle.bib_ris.proofs.LookedUp.{few_taken}
use Rattle.bib_ris.proofs.free_key.look_up.Goals as goal

pub is_taken-requires-clause-short : goal.is_taken-requires-clause-short
is_taken-requires-clause-short g c =
    let fits : c.candidates.n < 2 ^ 64 = omega arith in
    subst (λ (t : Text). length t ≤ name_limit) (sym (c.as_slice.ensures ∙ c.in_ok-key.ensures)) (candidate-short c.args.base.now c.candidates.n c.requires fits)

pub returns-then-not-is_taken : goal.returns-then-not-is_taken
returns-then-not-is_taken g c db reads =
    let free : c.is_taken.result ≡ false = search rules in
    let fewer : c.candidates.n ≤ length (entries_of db) = omega (arith, c.candidates-test.true, c.min-most.ensures, c.entry_count.ensures db reads) in
    let told : is_taken (taken_in db c.args.ids.now) (candidate c.args.base.now c.candidates.n) ≡ false =
    sym (ap (is_taken (taken_in db c.args.ids.now)) (c.as_slice.ensures ∙ c.in_ok-key.ensures)) ∙ sym (c.is_taken.ensures db reads) ∙ free in
    c.in_ok-key.ensures
    ∙ free-found (taken_in db c.args.ids.now) c.args.base.now c.candidates.n (c.candidates.invariant db reads) (few_taken db c.args.ids.now c.candidates.n fewer) told
