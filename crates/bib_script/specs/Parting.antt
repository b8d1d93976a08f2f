-- Texts between bytes that separate them.
use Rattle.std.specs.Prelude.{ℕ, ◌==◌, if◌then◌else◌, List, [], ◌∷◌}
use Rattle.bib_spec.specs.Bytes.{tab, line_feed, carriage_return}
use Rattle.bib_spec.specs.Text.{Text}
use Rattle.bib_spec.specs.Texts.{is_empty, onto_first}

-- the texts before, between and after the bytes that are this byte; they may be empty
abbrev pub parted : ℕ → Text → List Text
parted byte [] = [] ∷ []
parted byte (b ∷ t) = if b == byte then [] ∷ parted byte t else onto_first b (parted byte t)

-- the words of a line, separated by tabs
abbrev pub words_of : Text → List Text
words_of line = parted tab line

-- a line without the carriage return at its end, if there is one
abbrev pub without_return : Text → Text
without_return [] = []
without_return (b ∷ []) = if b == carriage_return then [] else b ∷ []
without_return (b ∷ c ∷ t) = b ∷ without_return (c ∷ t)

-- Each text before a line feed is a line, without a carriage return at its end. The text after the last line feed is a line too,
-- unchanged, unless it is empty.
abbrev pub as_lines : List Text → List Text
as_lines [] = []
as_lines (last ∷ []) = if is_empty last then [] else last ∷ []
as_lines (line ∷ next ∷ texts) = without_return line ∷ as_lines (next ∷ texts)

-- the lines of a text
abbrev pub lines_of : Text → List Text
lines_of text = as_lines (parted line_feed text)
