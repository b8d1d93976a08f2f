-- What is answered to a change of one entry or definition among several of its name.
use Rattle.std.specs.Prelude.{ℕ, ◌≡◌, true, false, List, Some, None, IfSome}
use Rattle.bib_spec.specs.Text.{Text}
use Rattle.bib_spec.specs.Tree.{Value}
use Rattle.bib_spec.specs.Reading.{Reading}
use Rattle.bib_spec.specs.Pieces.{Piece}
use Rattle.edit_spec.specs.Edits as edits
use Rattle.edit_spec.specs.Edits.{Spells, IsAccepted, IsFirstRefusal, item_meant, is_unclear, holders}
use Rattle.edit_spec.specs.EditChunks.{pieces_of}
use Rattle.bib_store.specs.Readings.{OfReading}
use Rattle.bib_keys.specs.MadeBase.{made_base}
use Rattle.bib_edit.specs.declared.fault.EditFault.{EditFault}
use Rattle.bib_edit.specs.declared.fault.EditFault.TheVariants.{NotFound, Ambiguous}
use Rattle.bib_edit.specs.declared.numbers.Which.{Which}
use Rattle.bib_edit.specs.Faults.{reason_of}
use Rattle.bib_edit.specs.Numbers.{which_seen}

-- the pieces are those of the edit
abbrev pub ArePiecesFor : edits.Edit → Text → List Piece → Type 0
ArePiecesFor e file pieces = OfReading file (λ db. pieces ≡ pieces_of made_base db e)

-- no reason refuses the edit
abbrev pub IsAllowedFor : edits.Edit → Text → Type 0
IsAllowedFor e file = OfReading file (λ db. IsAccepted made_base db e)

-- the fault is the first reason that refuses the edit, or want of memory
abbrev pub IsRefusalFor : edits.Edit → Text → EditFault → Type 0
IsRefusalFor e file fault = IfSome (reason_of fault) (λ reason. OfReading file (λ db. IsFirstRefusal made_base db e reason))

-- the change of the entry that is meant
abbrev pub change : Which → edits.EntryChange → edits.Edit
change key c = edits.ChangeEntry (which_seen key) c

-- it holds of the value that the bytes are
abbrev pub OfSpelled : Text → (Value → Type 0) → Type 0
OfSpelled value P = (v : Value) → Spells value v → P v

-- this item is the entry that is meant, and it is clear which that is
pub record IsMeantAt (key : Which) (db : Reading) (n : ℕ) : Type 0 where
  pub item : item_meant (which_seen key) db.items ≡ Some n
  pub clear : is_unclear (which_seen key) (holders key.name.now db) ≡ false

-- no entry is meant, or it is unclear which is
pub data IsMeantFault (file : Text) (key : Which) : EditFault → Type 0 where
  none_meant : OfReading file (λ db. item_meant (which_seen key) db.items ≡ None) → IsMeantFault file key NotFound
  unclear : OfReading file (λ db. (n : ℕ) × (item_meant (which_seen key) db.items ≡ Some n)) → OfReading file (λ db. is_unclear (which_seen key) (holders key.name.now db) ≡ true) → IsMeantFault file key Ambiguous
