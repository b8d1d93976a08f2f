-- What an aux file says: the keys that a document cites, and the further aux files that it names.
use Rattle.std.specs.Prelude.{ℕ, Bool, false, not, ◌==◌, ◌||◌, ◌&&◌, List, [], ◌∷◌, ◌++◌, length, take, drop, Option, Some, None, option_and_then, if◌then◌else◌, bytes_eq, codes, filter}
use Rattle.std.specs.List.{flat_map, list_any, list_all, slice_split, take_while}
use Rattle.std.specs.Option.{option_map_or}
use Rattle.bib_spec.specs.Bytes.{line_feed, comma, open_brace, close_brace}
use Rattle.bib_spec.specs.Text.{Text, is_space, after_run}
use Rattle.bib_spec.specs.Texts.{is_empty}

-- ---- lines

-- the byte may be in the argument of a line that counts: it is neither white space nor a brace (dialect)
abbrev pub is_argument_byte : ℕ → Bool
is_argument_byte b = not (is_space b || (b == open_brace || b == close_brace))

-- a closing brace, and after it white space alone
abbrev pub ends_line : Text → Bool
ends_line [] = false
ends_line (b ∷ t) = (b == close_brace) && list_all is_space t

-- the text after this beginning, if the text begins so
abbrev pub text_after : Text → Text → Option Text
text_after start t = if bytes_eq (take (length start) t) start then Some (drop (length start) t) else None

-- the argument that this text begins with, if the line ends after it
abbrev pub argument_in : Text → Option Text
argument_in t = if ends_line (after_run is_argument_byte t) then Some (take_while is_argument_byte t) else None

-- The argument of a line that, whole, is this beginning, an argument and a closing brace. White space at the line's end does not
-- count. (dialect)
abbrev pub argument : Text → Text → Option Text
argument start line = option_and_then argument_in (text_after start line)

-- the words of an argument, between commas; empty words are left out
abbrev pub words_of : Text → List Text
words_of t = filter (λ word. not (is_empty word)) (slice_split (λ b. b == comma) t)

-- the words of a line with this beginning, or none if it is another line
abbrev pub words_in : Text → Text → List Text
words_in start line = option_map_or words_of (argument start line) []

-- the words of all lines with this beginning, in order
abbrev pub all_words : Text → Text → List Text
all_words start text = flat_map (words_in start) (slice_split (λ b. b == line_feed) text)

-- ---- what counts

-- how a line of citations begins
abbrev pub citation : Text
citation = codes "\\citation{"

-- how a line that names a further aux file begins
abbrev pub input : Text
input = codes "\\@input{"

-- the key that cites all entries
abbrev pub star : Text
star = codes "*"

-- These keys, and after them the keys that are cited. If `*` is cited, all entries are, and `*` stands alone.
abbrev pub with_cited : List Text → List Text → List Text
with_cited keys cited = if list_any (bytes_eq star) cited then star ∷ [] else keys ++ cited

-- the keys that an aux file cites
abbrev pub keys_in : Text → List Text
keys_in text = with_cited [] (all_words citation text)

-- the further aux files that an aux file names
abbrev pub inputs_in : Text → List Text
inputs_in text = all_words input text
