-- Keywords: one RIS line for each. (dialect)
use Rattle.std.specs.Prelude.{ℕ, Bool, ◌==◌, List, codes, map, filter}
use Rattle.std.specs.List.{slice_split, join_by}
use Rattle.std.specs.Str.{bytes_eq}
use Rattle.bib_spec.specs.Bytes.{comma}
use Rattle.bib_spec.specs.Text.{Text}
use Rattle.bib_text.specs.Trimming.{trimmed}
use Rattle.ris_format.specs.Lines.{has_bytes}

-- the byte is a comma, at which keywords are cut
abbrev pub is_comma_byte : ℕ → Bool
is_comma_byte byte = byte == comma

-- the texts between the commas, without white space at their ends
abbrev pub keyword_pieces : Text → List Text
keyword_pieces text = map trimmed (slice_split is_comma_byte text)

-- the keywords that are written: the texts between commas, without the empty ones
abbrev pub written_keywords : Text → List Text
written_keywords text = filter has_bytes (keyword_pieces text)

-- the field `keywords` from these lines: their values, joined by a comma and a space
abbrev pub read_keywords : List Text → Text
read_keywords values = join_by (λ value. value) (codes ", ") values

-- the text is its keywords, joined by a comma and a space
abbrev pub are_plain_keywords : Text → Bool
are_plain_keywords text = bytes_eq (read_keywords (written_keywords text)) text
