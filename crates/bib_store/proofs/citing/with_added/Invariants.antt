use Rattle.bib_store.proofs.Words.{◌≡◌, ◌++◌, filter, range_with_len, is_added}
use Rattle.bib_store.proofs.citing.with_added.Given as goal

abbrev pub invariant-loop-n : goal.invariant-loop-n
invariant-loop-n l = l.all.items ≡ l.fn.listed.items ++ filter (is_added l.marks l.counts l.fn.min) (range_with_len 0 l.n)
