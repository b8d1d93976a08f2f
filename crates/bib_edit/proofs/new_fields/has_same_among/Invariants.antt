use Rattle.bib_edit.proofs.Words.{◌≡◌, length, has_same, names_of}
use Rattle.bib_edit.proofs.new_fields.has_same_among.Given as goal

abbrev pub invariant-fields : goal.invariant-fields
invariant-fields l = has_same (names_of l.rest) ≡ has_same (names_of l.fields)

abbrev pub decreases-fields : goal.decreases-fields
decreases-fields l = length l.rest
