-- The pieces that define a macro and that give it another value, and what is answered if what they make is too long.
use Rattle.std.specs.Prelude.{ℕ, zero, suc, ◌≡◌, ◌+◌, ◌<◌, ◌≤◌, nat_lt, false, List, [], ◌++◌, None, length, drop, codes}
use Rattle.bib_spec.specs.Bytes.{file_limit}
use Rattle.bib_spec.specs.Text.{Text}
use Rattle.bib_spec.specs.Tree.{Definition, Value}
use Rattle.bib_spec.specs.Reading.{Reading}
use Rattle.bib_spec.specs.Texts.{IsOpenable, months, updated, macros_at, raw_text, raw_limit}
use Rattle.bib_spec.specs.Pieces.{Piece, applied}
use Rattle.part_spec.specs.Parts.{uses, have_part}
use Rattle.bib_scan.specs.Layout.{start_of}
use Rattle.bib_edit.specs.Definitions.{value_token}
use Rattle.bib_edit.specs.Limits.{olds_len, news_len}
use Rattle.bib_edit.specs.Removal.{body_at}
use Rattle.bib_edit.specs.declared.fault.EditFault.{EditFault}
use Rattle.bib_edit.specs.declared.fault.EditFault.TheVariants.{FileTooLong, TextTooLong, Memory}

-- ---- pieces

-- a definition as it is written, between these texts
abbrev pub definition_line : Text → Text → Text → Text → Text
definition_line before name value after = before ++ codes "@string{" ++ name ++ codes " = " ++ value ++ codes "}" ++ after

-- a definition is put before the first item, or directly after the body of the last of n items
abbrev pub defining_piece : Reading → ℕ → Text → Text → Piece
defining_piece db zero name value = record { place = start_of db 0; old = []; new = definition_line [] name value (codes "\n") }
defining_piece db (suc n) name value = record { place = start_of db n + length (body_at db.items n); old = []; new = definition_line (codes "\n") name value [] }

-- the value of a definition that begins at this place gives way to this one
abbrev pub value_piece : ℕ → Definition → Text → Piece
value_piece start d value = record { place = (value_token start d).0; old = (value_token start d).1; new = value }

-- ---- lengths

-- the pieces make a file that is not too long
abbrev pub MakeShortFile : List Piece → Text → Type 0
MakeShortFile pieces file = length file + news_len pieces ≤ file_limit + olds_len pieces

-- the file that the pieces make can be opened, and is not too long
pub record MakeOpenFile (pieces : List Piece) (file : Text) : Type 0 where
  pub short : MakeShortFile pieces file
  pub opens : IsOpenable (applied pieces file)

-- the file that the pieces make would be too long; or else it cannot be opened; or memory was refused
pub data IsLengthFault (pieces : List Piece) (file : Text) : EditFault → Type 0 where
  long_file : file_limit + olds_len pieces < length file + news_len pieces → IsLengthFault pieces file FileTooLong
  long_text : MakeShortFile pieces file → (IsOpenable (applied pieces file) → ⊥) → IsLengthFault pieces file TextTooLong
  no_memory : IsLengthFault pieces file Memory

-- ---- texts that stay short

-- what the value says in item n, where it is that of the macro's definition, is not too long
abbrev pub IsShortAt : Text → Value → ℕ → Reading → Type 0
IsShortAt name v n db = nat_lt raw_limit (length (raw_text (updated (macros_at months db.items n) name None) v)) ≡ false

-- so is it, and no item from this number on uses the macro
pub record StaysShort (name : Text) (v : Value) (n after : ℕ) (db : Reading) : Type 0 where
  pub text : IsShortAt name v n db
  pub unused : have_part (uses name) (drop after db.items) ≡ false
