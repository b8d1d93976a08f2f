use Rattle.bib_edit.proofs.Words.{OfReading, AreShortTo}
use Rattle.bib_edit.proofs.new_fields.is_any_long.Given as goal

abbrev pub invariant-loop-field : goal.invariant-loop-field
invariant-loop-field g l = OfReading l.db (λ r. AreShortTo r l.n l.fields l.field-index)
