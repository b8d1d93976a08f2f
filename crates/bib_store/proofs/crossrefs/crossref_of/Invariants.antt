use Rattle.bib_store.proofs.Words.{length}
use Rattle.bib_store.proofs.RowTexts.{RowsTo}
use Rattle.bib_store.proofs.crossrefs.crossref_of.Given as goal

abbrev pub decreases-rows : goal.decreases-rows
decreases-rows g l = length l.fields

abbrev pub invariant-rows : goal.invariant-rows
invariant-rows g l = RowsTo l.fn.fields (g.M.MacroTable.macros l.macros) l.found l.fields
