-- What is answered to a text that is to be put into a file.
use Rattle.std.specs.Prelude.{ℕ, ◌≡◌, ◌≤◌, false, List, ◌++◌, length, IfSome}
use Rattle.bib_spec.specs.Text.{Text}
use Rattle.bib_spec.specs.Reading.{Reading, bytes_of}
use Rattle.bib_spec.specs.Texts.{IsOpenable}
use Rattle.bib_spec.specs.Pieces.{Piece, Fit, applied}
use Rattle.insert_spec.specs.Insertion.{line_end_before, inserted, pieces_of, is_key_taken, is_name_taken, IsAcceptedInsertion, IsPlannedInsertion, IsFirstRefusedInsertion}
use Rattle.bib_store.specs.Readings.{OfReading}
use Rattle.bib_edit.specs.declared.fault.EditFault.{EditFault}
use Rattle.bib_edit.specs.declared.fault.EditFault.TheVariants.{TextTooLong}
use Rattle.bib_edit.specs.Faults.{reason_of}
use Rattle.bib_edit.specs.Removal.{ContinuesCleanly}

-- the pieces put the text into the file before item `position`
abbrev pub AreInsertionPieces : Text → Text → ℕ → List Piece → Type 0
AreInsertionPieces file text position pieces = OfReading file (λ db. OfReading text (λ new. pieces ≡ pieces_of position new db))

-- no reason refuses the insertion, but perhaps that a text would be too long
abbrev pub IsPlanned : Text → Text → ℕ → Type 0
IsPlanned file text position = OfReading file (λ db. OfReading text (λ new. IsPlannedInsertion position new db))

-- no reason refuses the insertion
abbrev pub IsAllowedInsertion : Text → Text → ℕ → Type 0
IsAllowedInsertion file text position = OfReading file (λ db. OfReading text (λ new. IsAcceptedInsertion position new db))

-- the fault is the first reason that refuses the insertion, or want of memory
abbrev pub IsInsertionRefusal : Text → Text → ℕ → EditFault → Type 0
IsInsertionRefusal file text position fault =
    IfSome (reason_of fault) (λ reason. OfReading file (λ db. OfReading text (λ new. IsFirstRefusedInsertion position new db reason)))

-- there is such a position, no key and no macro is taken, and the new text begins no item with the text before it; no
-- length is looked at
pub record IsInsertable (position : ℕ) (new db : Reading) : Type 0 where
  pub place : position ≤ length db.items
  pub keys : is_key_taken new db ≡ false
  pub names : is_name_taken new db ≡ false
  pub joins : ContinuesCleanly db position (line_end_before position new db ++ new.front)

-- ---- laws

-- both texts can be opened, the insertion is planned, and these are its pieces
pub record IsPlannedAs (file text : Text) (position : ℕ) (pieces : List Piece) : Type 0 where
  pub file_opens : IsOpenable file
  pub text_opens : IsOpenable text
  pub planned : IsPlanned file text position
  pub pieces_are : AreInsertionPieces file text position pieces

-- The pieces of a planned insertion fit the file, and lead to the bytes of the database with the text put in.
pub record PlannedInsertionsLead : Type 0 where
  pub fit : (file text : Text) (position : ℕ) (pieces : List Piece) → IsPlannedAs file text position pieces → Fit pieces file
  pub lead : (file text : Text) (position : ℕ) (pieces : List Piece) → IsPlannedAs file text position pieces
      → OfReading file (λ db. OfReading text (λ new. applied pieces file ≡ bytes_of (inserted position new db)))

-- If nothing refuses the insertion, the file that it leads to can be opened. If that file can be opened, nothing refuses the
-- insertion; if it can't, a text would be too long.
pub record PlannedInsertionsOpen : Type 0 where
  pub opens : (file text : Text) (position : ℕ) (pieces : List Piece) → IsPlannedAs file text position pieces
      → IsAllowedInsertion file text position → IsOpenable (applied pieces file)
  pub allowed : (file text : Text) (position : ℕ) (pieces : List Piece) → IsPlannedAs file text position pieces
      → IsOpenable (applied pieces file) → IsAllowedInsertion file text position
  pub refused : (file text : Text) (position : ℕ) (pieces : List Piece) → IsPlannedAs file text position pieces
      → (IsOpenable (applied pieces file) → ⊥) → IsInsertionRefusal file text position TextTooLong
