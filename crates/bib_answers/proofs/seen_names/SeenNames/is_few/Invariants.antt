use Rattle.bib_answers.proofs.Words.{◌≡◌, false, Bor, List, ℕ, take, list_any, same}
use Rattle.bib_answers.proofs.seen_names.SeenNames.is_few.Given as goal

abbrev pub invariant-few : goal.invariant-few
invariant-few l = list_any (λ (few : Bor (List ℕ)). same l.name few.now) (take l.few-index l.self.few.items) ≡ false
