use Rattle.bib_store.proofs.Words.{◌≡◌, range_with_len}
use Rattle.bib_store.proofs.citing.all_numbers.Given as goal

abbrev pub invariant-loop-n : goal.invariant-loop-n
invariant-loop-n l = l.numbers.items ≡ range_with_len 0 l.n
