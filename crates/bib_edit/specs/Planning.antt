-- What is answered to an edit that is asked of a database.
use Rattle.std.specs.Prelude.{◌≡◌, List, IfSome}
use Rattle.bib_spec.specs.Text.{Text}
use Rattle.bib_spec.specs.Pieces.{Piece}
use Rattle.edit_spec.specs.Edits.{IsAccepted, IsFirstRefusal}
use Rattle.edit_spec.specs.EditChunks.{pieces_of}
use Rattle.bib_store.specs.Readings.{OfReading}
use Rattle.bib_data.specs.declared.edit.Edit.{Edit}
use Rattle.bib_edit.specs.declared.fault.EditFault.{EditFault}
use Rattle.bib_keys.specs.MadeBase.{made_base}
use Rattle.bib_edit.specs.Asking.{OfEdit}
use Rattle.bib_edit.specs.Faults.{reason_of}

-- no reason refuses the edit
abbrev pub IsAllowedEdit : Text → Edit → Type 0
IsAllowedEdit file edit = OfReading file (λ db. OfEdit edit (IsAccepted made_base db))

-- the pieces are those of the edit
abbrev pub ArePiecesOf : Text → Edit → List Piece → Type 0
ArePiecesOf file edit pieces = OfReading file (λ db. OfEdit edit (λ e. pieces ≡ pieces_of made_base db e))

-- the fault is the first reason that refuses the edit, or want of memory
abbrev pub IsRefusal : Text → Edit → EditFault → Type 0
IsRefusal file edit fault =
    IfSome (reason_of fault) (λ reason. OfReading file (λ db. OfEdit edit (λ e. IsFirstRefusal made_base db e reason)))
