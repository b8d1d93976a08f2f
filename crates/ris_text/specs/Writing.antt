-- The text of records, and the records whose text says them again.
use Rattle.std.specs.Prelude.{ℕ, ◌≡◌, Bool, true, ◌&&◌, ◌||◌, not, ◌==◌, List, [], ◌∷◌, ◌++◌, map, bytes_eq, codes}
use Rattle.std.specs.List.{list_all, list_any, flat_map}
use Rattle.bib_spec.specs.Bytes.{line_feed, carriage_return}
use Rattle.bib_spec.specs.Text.{Text}
use Rattle.bib_spec.specs.Texts.{is_empty}
use Rattle.ris_text.specs.declared.records.RisLine.{RisLine}
use Rattle.ris_text.specs.declared.records.RisRecord.{RisRecord}
use Rattle.bib_text.specs.Trimming.{trimmed}
use Rattle.ris_text.specs.Tags.{begin_tag, end_tag, is_known}

-- ---- text

-- a line with this tag and value, without its line feed
abbrev pub written : Text → Text → Text
written tag value = tag ++ (codes "  - " ++ value)

-- the lines of a record: the TY line has its type, and the ER line no value
abbrev pub written_lines : RisRecord → List Text
written_lines r = written begin_tag r.kind_name ∷ (map (λ line. written line.tag line.value) r.lines ++ written end_tag [] ∷ [])

-- a line with its line feed
abbrev pub ended : Text → Text
ended line = line ++ line_feed ∷ []

-- the text of a record: its lines, each with its line feed
abbrev pub record_text : RisRecord → Text
record_text r = flat_map ended (written_lines r)

-- the text of records
abbrev pub ris_text : List RisRecord → Text
ris_text records = flat_map record_text records

-- ---- records that can be written

-- a byte at which programs end a line: a line feed or a carriage return
abbrev pub ends_line : ℕ → Bool
ends_line b = b == line_feed || b == carriage_return

-- a text that fits a line: no line ends in it, and it has no white space at its ends
unfoldable pub fits_line : Text → Bool
fits_line text = not (list_any ends_line text) && bytes_eq (trimmed text) text

-- a line with a known tag, whose value fits a line
abbrev pub is_well_formed_line : RisLine → Bool
is_well_formed_line line = is_known line.tag && fits_line line.value

-- a record that can be written and read back: it has a type, its tags are known, and type and values fit a line
unfoldable pub is_well_formed : RisRecord → Bool
is_well_formed r = (not (is_empty r.kind_name) && fits_line r.kind_name) && list_all is_well_formed_line r.lines

-- all records can be written and read back
abbrev pub AreWellFormed : List RisRecord → Type 0
AreWellFormed records = list_all is_well_formed records ≡ true
