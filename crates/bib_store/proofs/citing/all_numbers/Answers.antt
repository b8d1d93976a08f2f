use Rattle.bib_store.proofs.Words.{List, ℕ, ◌∷◌, [], ◌++◌, sym, ◌∙◌, ap}
use Rattle.bib_store.proofs.Citations.{range_more}
use Rattle.bib_store.proofs.citing.all_numbers.Goals as goal

pub loop-n-preserved : goal.loop-n-preserved
loop-n-preserved c = c.in_ok-push.ensures.items ∙ ap (λ (l : List ℕ). l ++ c.loop-n.n ∷ []) c.loop-n.invariant ∙ sym (range_more c.loop-n.n)
