-- The lines of a file, each with its place and its class. (RIS format specification; dialect where a line has no tag)
use Rattle.std.specs.Prelude.{ℕ, ◌+◌, Bool, true, false, ◌==◌, if◌then◌else◌, List, [], ◌∷◌, length, take, drop, nat_eq}
use Rattle.std.specs.List.{starts_with}
use Rattle.bib_spec.specs.Bytes.{line_feed}
use Rattle.bib_spec.specs.Text.{Text}
use Rattle.bib_spec.specs.Texts.{is_empty, onto_first}
use Rattle.ris_text.specs.declared.lines.Class.{Class}
use Rattle.ris_text.specs.declared.lines.Class.TheVariants.{Begin, End, Known, Other, Blank, Untagged}
use Rattle.bib_text.specs.Trimming.{trimmed}
use Rattle.ris_text.specs.Tags.{has_tag, tag_class}

-- A line has one of six classes. With a tag: `Begin` has TY, `End` has ER, `Known tag` a tag that a record keeps, `Other` another
-- tag. Without a tag: `Blank` is white space alone, `Untagged` is any other text.

-- a line: the place of its first byte in the file, its class, and its text, which is its value if it has a tag
pub record Line : Type 0 where
  pub place : ℕ
  pub class : Class
  pub text : Text

-- a line with a tag
abbrev pub tag_line : ℕ → Text → Text → Line
tag_line place tag value = record { place = place; class = tag_class tag; text = trimmed value }

-- a line without a tag, which is blank if it has no text
abbrev pub plain_line : ℕ → Text → Line
plain_line place text = record { place = place; class = if is_empty text then Blank else Untagged; text = text }

-- the line at this place that has these bytes
unfoldable pub line_at : ℕ → Text → Line
line_at place bytes = if has_tag bytes then tag_line place (take 2 bytes) (drop 5 bytes) else plain_line place (trimmed bytes)

-- The bytes of the lines of a text. Line feeds end lines, and the last line may lack its line feed.
abbrev pub line_texts : Text → List Text
line_texts [] = []
line_texts (b ∷ t) = if b == line_feed then [] ∷ line_texts t else onto_first b (line_texts t)

-- the lines that have these bytes, the first of them at this place
abbrev pub lines_from : ℕ → List Text → List Line
lines_from place [] = []
lines_from place (bytes ∷ others) = line_at place bytes ∷ lines_from (place + length bytes + 1) others

-- the mark with which a file in UTF-8 may begin
abbrev pub mark : Text
mark = 239 ∷ 187 ∷ 191 ∷ []

-- how many bytes the mark at the front of a file takes: three, or none if the file has no mark
unfoldable pub mark_len : Text → ℕ
mark_len file = if starts_with nat_eq file mark then 3 else 0

-- the lines of a file; a mark at its front is in no line, but counts in the places of lines
abbrev pub lines_of : Text → List Line
lines_of file = lines_from (mark_len file) (line_texts (drop (mark_len file) file))

-- the line has no tag
abbrev pub is_untagged : Class → Bool
is_untagged Begin = false
is_untagged End = false
is_untagged (Known tag) = false
is_untagged Other = false
is_untagged Blank = true
is_untagged Untagged = true
