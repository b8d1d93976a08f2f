use Rattle.bib_edit.proofs.Words.{HaveValuesTo}
use Rattle.bib_edit.proofs.new_fields.are_values.Given as goal

abbrev pub invariant-loop-field : goal.invariant-loop-field
invariant-loop-field l = HaveValuesTo l.fields l.field-index
