-- Lines of a RIS record by their tags, and what is found in them.
use Rattle.std.specs.Prelude.{Bool, true, false, not, List, [], ◌∷◌, map, filter, slice_index_or, if◌then◌else◌}
use Rattle.std.specs.List.{flat_map, list_all, list_any}
use Rattle.std.specs.Str.{bytes_eq}
use Rattle.bib_spec.specs.Text.{Text}
use Rattle.bib_spec.specs.Texts.{is_empty, field_text}
use Rattle.bib_value.specs.Spacing.{neat}
use Rattle.ris_text.specs.declared.records.RisLine.{RisLine}

-- the text is not empty
abbrev pub has_bytes : Text → Bool
has_bytes text = not (is_empty text)

-- a list with the text, or the empty list if the text is empty
abbrev pub single : Text → List Text
single text = if is_empty text then [] else text ∷ []

-- ---- writing

-- a line with this tag and this value
abbrev pub line : Text → Text → RisLine
line tag value = record { tag = tag; value = value }

-- a tag and its values, each on a line of its own
pub record Tagged : Type 0 where
  pub tag : Text
  pub values : List Text

-- this tag with these values
abbrev pub tagged : Text → List Text → Tagged
tagged tag values = record { tag = tag; values = values }

-- the lines of one tag and its values
abbrev pub tagged_lines : Tagged → List RisLine
tagged_lines group = map (line group.tag) group.values

-- the lines of all these tags and values
abbrev pub lines_of : List Tagged → List RisLine
lines_of groups = flat_map tagged_lines groups

-- there is a line
abbrev pub has_lines : List RisLine → Bool
has_lines [] = false
has_lines (l ∷ lines) = true

-- ---- reading

-- each value is words with one space between each two: it is its own field text
abbrev pub are_neat_lines : List RisLine → Bool
are_neat_lines lines = list_all (λ l. neat true l.value) lines

-- a line with its value as a field text
abbrev pub spaced : RisLine → RisLine
spaced l = line l.tag (field_text l.value)

-- the lines as they are read: each value as a field text, empty ones left out
abbrev pub read_lines : List RisLine → List RisLine
read_lines lines = filter (λ l. has_bytes l.value) (map spaced lines)

-- the line has one of these tags
abbrev pub has_tag : List Text → RisLine → Bool
has_tag tags l = list_any (λ tag. bytes_eq tag l.tag) tags

-- the values after these tags, in the order of the lines
abbrev pub values_at : List Text → List RisLine → List Text
values_at tags lines = map (λ l. l.value) (filter (has_tag tags) lines)

-- the first value after these tags, empty if there is none
abbrev pub value_at : List Text → List RisLine → Text
value_at tags lines = slice_index_or (values_at tags lines) 0 []

-- the text, or the other text if it is empty
abbrev pub or_else : Text → Text → Text
or_else text other = if is_empty text then other else text
