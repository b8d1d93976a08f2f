-- Texts as LaTeX prints them: a byte that LaTeX takes for a command is written so that it is printed. (LaTeX: the ten special
-- characters; dialect: how each is written)
use Rattle.std.specs.Prelude.{ℕ, Bool, ◌||◌, ◌==◌, List, [], ◌∷◌, codes, map, find, if◌then◌else◌}
use Rattle.std.specs.List.{flat_map}
use Rattle.std.specs.Option.{option_map_or}
use Rattle.std.specs.Str.{bytes_eq}
use Rattle.bib_spec.specs.Text.{Text, IsBalanced}
use Rattle.bib_spec.specs.Records.{Record}
use Rattle.ris_text.specs.declared.records.RisLine.{RisLine}
use Rattle.ris_text.specs.declared.records.RisRecord.{RisRecord}
use Rattle.ris_format.specs.Kinds.{kind_of_ris}
use Rattle.ris_format.specs.Lines.{line, read_lines}
use Rattle.ris_format.specs.Mapping.{record_in, back}

-- a byte, and what LaTeX prints as this byte
pub record Escape : Type 0 where
  pub byte : ℕ
  pub written : Text

-- this byte, written like this
abbrev pub escape : ℕ → Text → Escape
escape byte written = record { byte = byte; written = written }

-- The ten bytes that LaTeX takes for commands. BibTeX counts a brace after a backslash too, so a brace is written by its name.
abbrev pub escapes : List Escape
escapes =
    escape 38 (codes "\\&") ∷ escape 37 (codes "\\%") ∷ escape 36 (codes "\\$") ∷ escape 35 (codes "\\#") ∷ escape 95 (codes "\\_")
    ∷ escape 123 (codes "{\\textbraceleft}") ∷ escape 125 (codes "{\\textbraceright}")
    ∷ escape 126 (codes "{\\textasciitilde}") ∷ escape 94 (codes "{\\textasciicircum}") ∷ escape 92 (codes "{\\textbackslash}") ∷ []

-- how the byte is written: as it is, unless it is one of the ten
abbrev pub escape_of : ℕ → Text
escape_of byte = option_map_or (λ e. e.written) (find (λ e. e.byte == byte) escapes) (byte ∷ [])

-- the text as LaTeX prints it
abbrev pub escaped : Text → Text
escaped text = flat_map escape_of text

-- the braces of an escaped text match, whatever the text is
abbrev pub EscapedTextsBalance : Type 0
EscapedTextsBalance = (text : Text) → IsBalanced (escaped text)

-- values of this tag are no texts to print: URL and DOI, which a style prints by `\url`, and the ID, which becomes a key
abbrev pub is_copied : Text → Bool
is_copied tag = bytes_eq (codes "UR") tag || bytes_eq (codes "DO") tag || bytes_eq (codes "ID") tag

-- the value of a line as LaTeX prints it, or as it is if values of its tag are copied
abbrev pub escaped_value : RisLine → Text
escaped_value l = if is_copied l.tag then l.value else escaped l.value

-- the line with its value as LaTeX prints it
abbrev pub escaped_line : RisLine → RisLine
escaped_line l = line l.tag (escaped_value l)

-- The record of a RIS record whose values LaTeX prints as they are. Names are taken apart when their braces are escaped, so a brace
-- is a byte like others there.
abbrev pub back_escaped : RisRecord → Record
back_escaped ris = record_in (kind_of_ris ris.kind_name) (map escaped_line (read_lines ris.lines))

-- the record of a RIS record, as it is or as LaTeX prints it
abbrev pub back_as : Bool → RisRecord → Record
back_as latex ris = if latex then back_escaped ris else back ris
