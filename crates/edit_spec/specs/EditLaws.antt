-- What an accepted edit makes: a database that reads, from a file that opens.
use Rattle.std.specs.Prelude.{⊤}
use Rattle.bib_spec.specs.Text.{Text}
use Rattle.bib_spec.specs.Reading.{Reading, Reads, bytes_of}
use Rattle.bib_spec.specs.Texts.{Opens}
use Rattle.bib_spec.specs.Records.{Record}
use Rattle.bib_spec.specs.Pieces.{applied}
use Rattle.bib_spec.specs.MadeKeys.{IsKeyBase}
use Rattle.edit_spec.specs.Edits.{Edit, RegenerateKeys, edited, IsAccepted}
use Rattle.edit_spec.specs.EditChunks.{pieces_of}

-- if the edit makes keys, their base is one of made keys
abbrev pub HasKeyBase : (Record → Text) → Edit → Type 0
HasKeyBase key_base (RegenerateKeys depth) = IsKeyBase key_base
HasKeyBase key_base other = ⊤

-- What an accepted edit makes of a reading is again the one reading of its bytes.
abbrev pub edited_reads : Type 0
edited_reads = (key_base : Record → Text) (file : Text) (db : Reading) (e : Edit) → HasKeyBase key_base e → Reads file db → IsAccepted key_base db e →
    Reads (bytes_of (edited key_base db e)) (edited key_base db e)

-- The pieces of an accepted edit make a file that can be opened, and its reading is what the edit makes.
abbrev pub applied_opens : Type 0
applied_opens = (key_base : Record → Text) (file : Text) (db : Reading) (e : Edit) → HasKeyBase key_base e → Reads file db → IsAccepted key_base db e →
    Opens (applied (pieces_of key_base db e) file) (edited key_base db e)
