use Rattle.std.proofs.Common.{◌++◌, ◌∷◌, [], List, ℕ, sym, ◌∙◌, ap}
use Rattle.bib_places.proofs.PlacesPut.{next-number, all-numbers}
use Rattle.bib_places.proofs.numbers.numbers.Goals as goal

pub numbers-preserved : goal.numbers-preserved
numbers-preserved c =
    c.in_ok-push.ensures.items ∙ ap (λ (l : List ℕ). l ++ c.numbers.n ∷ []) c.numbers.invariant ∙ sym (next-number c.numbers.n c.args.count c.numbers-test.true)

pub returns : goal.returns
returns c = c.numbers.invariant ∙ all-numbers c.numbers.n c.args.count c.numbers-test.false
