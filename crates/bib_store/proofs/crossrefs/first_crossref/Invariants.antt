use Rattle.bib_store.proofs.Words.{length, Macros}
use Rattle.bib_store.proofs.FirstCrossrefs.{AreAhead}
use Rattle.bib_store.proofs.crossrefs.first_crossref.Given as goal

abbrev pub decreases-rows : goal.decreases-rows
decreases-rows g l = length l.fields

abbrev pub invariant-rows : goal.invariant-rows
invariant-rows g l = (m : Macros) → AreAhead l.fn.fields m l.fields
