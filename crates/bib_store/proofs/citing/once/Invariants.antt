use Rattle.bib_store.proofs.Citations.{IsListing}
use Rattle.bib_store.proofs.citing.once.Given as goal

abbrev pub invariant-loop-n : goal.invariant-loop-n
invariant-loop-n l = IsListing l.numbers l.listed.items l.marks l.n-index
