-- The file after an edit, by what it says.
use Rattle.bib_journal.proofs.Words.{◌≡◌, sym, subst, name_limit, Text, Reading, Reads, bytes_of, one_reading, IsAccepted, History, history_of, Edit, made_base, AsksFor, OfEdit, has_key_base, SessionState, MovesTo, MakesEdit, OfReadings, OpenStep, NoStep, NewStep, LastStep}
use Rattle.edit_spec.specs.Edits as edits
use Rattle.edit_spec.specs.Edits.{edited}
use Rattle.edit_spec.proofs.EditedReads.{edited-reads}

-- whatever step is open, the present is the file of the edit
pub moved_present : (current : OpenStep) (file : Text) (old new : History) → MovesTo current file old new → new.present ≡ file
moved_present NoStep file old new moves = moves.present
moved_present (NewStep label) file old new moves = moves.present
moved_present LastStep file old new moves = moves.present

-- The file after an edit says what the edit makes of what it said before.
pub made-reads : (edit : Edit) (old new : SessionState) → MakesEdit edit old new → (db : Reading) → Reads old.steps.present db → (e : edits.Edit) → AsksFor edit e
    → Reads new.steps.present (edited made_base db e)
made-reads edit old new made db reads e asks =
    let is : Reads (bytes_of (edited made_base db e)) (edited made_base db e) = edited-reads made_base old.steps.present db e (has_key_base e) reads (made.allowed db reads e asks) in
    subst (λ (file : Text). Reads file (edited made_base db e)) (sym (moved_present old.current (bytes_of (edited made_base db e)) (history_of old.steps) (history_of new.steps) (made.file db reads e asks))) is

-- What holds of what an accepted edit makes holds of what the two files say.
pub of-made : (P : Edit → Reading → Reading → Type 0) →
    ((edit : Edit) (db db' : Reading) → OfEdit edit (IsAccepted made_base db) → OfEdit edit (λ e. db' ≡ edited made_base db e) → P edit db db') →
    (edit : Edit) (old new : SessionState) → MakesEdit edit old new → OfReadings old.steps.present new.steps.present (P edit)
of-made P holds edit old new made db reads db' reads' =
    holds edit db db' (made.allowed db reads)
    (λ e asks. one_reading name_limit new.steps.present db' (edited made_base db e) reads' (made-reads edit old new made db reads e asks))
