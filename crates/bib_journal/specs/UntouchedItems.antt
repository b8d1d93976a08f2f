-- What a session keeps of the items that an edit does not touch. (dialect)
use Rattle.bib_spec.specs.Reading.{Reading}
use Rattle.edit_spec.specs.OtherLaws.{is_gone, is_changed, new_number, new_trail, KeepsItems}
use Rattle.bib_data.specs.declared.edit.Edit.{Edit}
use Rattle.bib_keys.specs.MadeBase.{made_base}
use Rattle.bib_edit.specs.Asking.{OfEdit}
use Rattle.bib_journal.specs.OpenSteps.{SessionState}
use Rattle.bib_journal.specs.Session.{MakesEdit}
use Rattle.bib_journal.specs.Renaming.{OfReadings}

-- Each item that the edit does not take away stands where the edit says, in the old order, with its tree unless that is changed,
-- and with its trail; the trail of an item that goes joins the trail before it, or the front.
abbrev pub KeepsUntouched : Edit → Reading → Reading → Type 0
KeepsUntouched edit old new = OfEdit edit (λ e. KeepsItems (is_gone old e) (is_changed made_base old e) (new_number old e) (new_trail old e) old new)

-- An accepted edit keeps the items that it does not touch.
abbrev pub items_are_kept : Type 0
items_are_kept = (edit : Edit) (old new : SessionState) → MakesEdit edit old new → OfReadings old.steps.present new.steps.present (KeepsUntouched edit)
