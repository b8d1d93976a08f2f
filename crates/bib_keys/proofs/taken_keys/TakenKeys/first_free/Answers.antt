use Rattle.bib_keys.proofs.Words.{◌≤◌, ◌<◌, ◌^◌, not, length, sym, ◌∙◌, ap, subst, arith, name_limit, Text, folded, candidate, value_at}
use Rattle.bib_keys.proofs.CandidateLengths.{candidate-short}
use Rattle.bib_keys.proofs.FirstFree.{free-found, free-exhausted, tried-more}
use Rattle.bib_keys.proofs.TakenLists.{told-free, told-taken}
use Rattle.bib_keys.proofs.taken_keys.TakenKeys.first_free.Goals as goal

pub returns-then-is_none-clause-short : goal.returns-then-is_none-clause-short
returns-then-is_none-clause-short c =
    let fits : c.candidates.n < 2 ^ 64 = omega arith in
    subst (λ (t : Text). length t ≤ name_limit) (sym c.in_ok-key.ensures) (candidate-short c.args.base.now c.candidates.n c.requires.short fits)

pub returns-then-is_none-clause-key : goal.returns-then-is_none-clause-key
returns-then-is_none-clause-key c keys are tried =
    let fits : c.candidates.n < 2 ^ 64 = omega arith in
    let test = c.candidates-test.true in
    let count = are.count in
    c.in_ok-key.ensures
    ∙ free-found keys c.args.base.now c.candidates.n (c.candidates.invariant keys are tried) (omega (arith, test, count))
    (told-free keys c.args.self.now are (candidate c.args.base.now c.candidates.n) (candidate-short c.args.base.now c.candidates.n c.requires.short fits)
    c.get.result (c.get.ensures ∙ ap (λ (t : Text). value_at c.args.self.now.taken (folded t)) (c.as_slice.ensures ∙ c.in_ok-key.ensures)) (c.is_none.ensures ∙ ap not c.if-is_none.true))

pub candidates-preserved : goal.candidates-preserved
candidates-preserved c keys are tried =
    let fits : c.candidates.n < 2 ^ 64 = omega arith in
    tried-more keys c.args.base.now c.candidates.n (c.candidates.invariant keys are tried)
    (told-taken keys c.args.self.now are (candidate c.args.base.now c.candidates.n) (candidate-short c.args.base.now c.candidates.n c.requires.short fits)
    c.get.result (c.get.ensures ∙ ap (λ (t : Text). value_at c.args.self.now.taken (folded t)) (c.as_slice.ensures ∙ c.in_ok-key.ensures)) (c.is_none.ensures ∙ ap not c.if-is_none.false))

pub returns-clause-key : goal.returns-clause-key
returns-clause-key c keys are tried =
    let test = c.candidates-test.false in
    let count = are.count in
    c.in_ok-candidate.ensures ∙ free-exhausted keys c.args.base.now c.candidates.n (c.candidates.invariant keys are tried) (omega (arith, test, count))

pub returns-clause-short : goal.returns-clause-short
returns-clause-short c =
    subst (λ (t : Text). length t ≤ name_limit) (sym c.in_ok-candidate.ensures) (candidate-short c.args.base.now 0 c.requires.short (omega arith))
