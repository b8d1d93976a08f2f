use Rattle.bib_edit.proofs.Words.{Bool, length, OfReading, FieldsHaveValues, IsFieldLong}
use Rattle.bib_edit.proofs.moving.is_field_long.Given as goal

abbrev pub invariant-fields : goal.invariant-fields
invariant-fields g l = FieldsHaveValues l.rest × OfReading l.db (λ r. (long : Bool) → IsFieldLong long r l.n l.rest → IsFieldLong long r l.n l.initial.rest)

abbrev pub decreases-fields : goal.decreases-fields
decreases-fields g l = length l.rest
