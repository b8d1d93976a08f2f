use Rattle.bib_value.proofs.MonthLemmas.{NoneBefore}
use Rattle.bib_value.proofs.months.text_in.Given as goal

abbrev pub invariant-loop-entry : goal.invariant-loop-entry
invariant-loop-entry l = NoneBefore l.names l.entry-index l.name
