use Rattle.bib_edit.proofs.Words.{◌≡◌, length}
use Rattle.bib_edit.specs.MeantFields.{nth_field}
use Rattle.bib_edit.proofs.one_entry.nth_field.Given as goal

abbrev pub invariant-fields : goal.invariant-fields
invariant-fields l = nth_field l.name l.more l.rest ≡ nth_field l.name l.number l.view.fields

abbrev pub decreases-fields : goal.decreases-fields
decreases-fields l = length l.rest
