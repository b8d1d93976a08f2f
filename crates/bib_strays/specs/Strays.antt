-- Lines of a text between items that look like what went wrong: a merge left a marker, or an entry lost its at-sign. (dialect)
use Rattle.std.specs.Prelude.{ℕ, ◌≡◌, ◌+◌, Bool, ◌&&◌, ◌||◌, not, ◌==◌, nat_lt, List, [], ◌∷◌, ◌++◌, length, take, drop, Option, None, Some, bytes_eq, codes, if◌then◌else◌}
use Rattle.std.specs.Char.{is_ascii_alphabetic}
use Rattle.std.specs.List.{prefix_len}
use Rattle.std.specs.Option.{option_map_or}
use Rattle.bib_spec.specs.Bytes.{line_feed, open_brace}
use Rattle.bib_spec.specs.Text.{Text, is_space, does_not_begin_with}
use Rattle.bib_spec.specs.Texts.{onto_first}
use Rattle.bib_text.specs.Trimming.{trimmed}
use Rattle.bib_strays.specs.declared.lines.StrayKind.{StrayKind}
use Rattle.bib_strays.specs.declared.lines.StrayKind.TheVariants.{ConflictMarker, LostEntry, LoneBrace}
use Rattle.bib_strays.specs.declared.strays.StrayLine.{StrayLine}

-- ---- lines

-- the lines of a text, without the line feeds between them; the last may be empty
abbrev pub lines_of : Text → List Text
lines_of [] = [] ∷ []
lines_of (b ∷ t) = if b == line_feed then [] ∷ lines_of t else onto_first b (lines_of t)

-- the length of the first line
abbrev pub first_len : Text → ℕ
first_len t = prefix_len (λ b. not (b == line_feed)) t

-- the first line, without its line feed
abbrev pub first_line : Text → Text
first_line t = take (first_len t) t

-- ---- what a line looks like

-- how many signs a marker has
abbrev pub mark_len : ℕ
mark_len = 7

-- one of the four signs of a merge, seven times
abbrev pub is_mark : Text → Bool
is_mark t = bytes_eq t (codes "<<<<<<<") || bytes_eq t (codes "|||||||") || bytes_eq t (codes "=======") || bytes_eq t (codes ">>>>>>>")

-- the line begins with a marker, and white space or nothing follows the marker (as `git diff --check` finds them)
abbrev pub is_marker : Text → Bool
is_marker line = is_mark (take mark_len line) && does_not_begin_with (λ b. not (is_space b)) (drop mark_len line)

-- the length of the word of ASCII letters with which the line begins
abbrev pub word_len : Text → ℕ
word_len line = prefix_len is_ascii_alphabetic line

-- the line begins with a word and an opening brace, as an entry does after its at-sign
abbrev pub is_lost_entry : Text → Bool
is_lost_entry line = nat_lt 0 (word_len line) && not (does_not_begin_with (λ b. b == open_brace) (drop (word_len line) line))

-- the line is a closing brace, with no more than white space around it
abbrev pub is_lone_brace : Text → Bool
is_lone_brace line = bytes_eq (trimmed line) (codes "}")

-- what a line looks like. In the text after a comment only markers count: the rest may be what was commented out.
abbrev pub kind_of_line : Bool → Text → Option StrayKind
kind_of_line commented line =
    if is_marker line then Some ConflictMarker
    else if commented then None
    else if is_lost_entry line then Some LostEntry
    else if is_lone_brace line then Some LoneBrace
    else None

-- the part of the line that shows it: the marker, the word or the brace
abbrev pub shown : StrayKind → Text → Text
shown ConflictMarker line = take mark_len line
shown LostEntry line = take (word_len line) line
shown LoneBrace line = trimmed line

-- ---- the lines of a text

-- a line that looks like what went wrong: what it looks like, its place in the text, and the part that shows it
pub record Stray : Type 0 where
  pub kind : StrayKind
  pub place : ℕ
  pub text : Text

-- a line at this place, if it looks like what went wrong
abbrev pub stray_at : Bool → ℕ → Text → List Stray
stray_at commented place line =
    option_map_or (λ kind. record { kind = kind; place = place; text = shown kind line } ∷ []) (kind_of_line commented line) []

-- those among lines of which the first begins at this place
abbrev pub strays_from : Bool → ℕ → List Text → List Stray
strays_from commented place [] = []
strays_from commented place (line ∷ lines) = stray_at commented place line ++ strays_from commented (place + length line + 1) lines

-- those of a text between items, which may be the text after a comment, in order
abbrev pub strays_in : Bool → Text → List Stray
strays_in commented text = strays_from commented 0 (lines_of text)

-- a line of the code, as a line of the definitions
abbrev pub stray_seen : StrayLine → Stray
stray_seen line = record { kind = line.kind; place = line.place; text = line.text.now }

-- those from this place of the text on
abbrev pub strays_left : Bool → ℕ → Text → List Stray
strays_left commented place text = strays_from commented place (lines_of (drop place text))

-- the first, with the place from which the others are
abbrev pub Continues : Bool → Text → Option (Stray × ℕ) → List Stray → Type 0
Continues commented text None strays = strays ≡ []
Continues commented text (Some found) strays = strays ≡ found.0 ∷ strays_left commented found.1 text
