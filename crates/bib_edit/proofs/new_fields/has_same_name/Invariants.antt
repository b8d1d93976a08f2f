use Rattle.bib_edit.proofs.SeenNames.{SeenTo}
use Rattle.bib_edit.proofs.new_fields.has_same_name.Given as goal

abbrev pub invariant-loop-field : goal.invariant-loop-field
invariant-loop-field l = SeenTo (λ field. field.0) l.fields l.field-index l.seen
