use Rattle.bib_edit.proofs.Words.{length, option_map, field_seen}
use Rattle.bib_edit.proofs.SoughtFields.{IsSeeking}
use Rattle.bib_edit.proofs.address.sought_fields.Given as goal

abbrev pub invariant-fields : goal.invariant-fields
invariant-fields l = IsSeeking l.name l.view.fields (option_map field_seen l.sought.first) l.sought.is_repeated (option_map field_seen l.sought.last) l.rest

abbrev pub decreases-fields : goal.decreases-fields
decreases-fields l = length l.rest
