-- Where the keys stand that an aux file cites. (dialect)
use Rattle.std.specs.Prelude.{ℕ, ◌+◌, ◌==◌, ◌&&◌, Bool, not, List, [], ◌∷◌, ◌++◌, length, if◌then◌else◌, bytes_eq}
use Rattle.std.specs.List.{slice_split}
use Rattle.std.specs.Option.{option_map_or}
use Rattle.bib_spec.specs.Bytes.{line_feed, comma}
use Rattle.bib_spec.specs.Text.{Text}
use Rattle.bib_spec.specs.Texts.{is_empty}
use Rattle.aux_text.specs.Citations.{argument, citation, star}
use Rattle.aux_text.specs.declared.placing.CitedKey.{CitedKey}

-- a word of a citation is a key: it is not empty, and it is not `*`, which cites all entries
abbrev pub is_key : Text → Bool
is_key word = not (is_empty word) && not (bytes_eq word star)

-- the word in this column of this line, if it is a key
abbrev pub key_at : ℕ → ℕ → Text → List CitedKey
key_at line column word = if is_key word then record { key = word; line = line; column = column } ∷ [] else []

-- the parts of an argument, between commas
abbrev pub parts_in : Text → List Text
parts_in argument = slice_split (λ b. b == comma) argument

-- the keys among these parts of an argument, the first of which begins in this column of this line; one comma stands between two parts
abbrev pub keys_from : ℕ → ℕ → List Text → List CitedKey
keys_from line column [] = []
keys_from line column (part ∷ parts) = key_at line column part ++ keys_from line (column + length part + 1) parts

-- the column in which the argument of a citation begins, counted from 1
abbrev pub first_column : ℕ
first_column = length citation + 1

-- the keys that a line with this number cites
abbrev pub keys_in_line : ℕ → Text → List CitedKey
keys_in_line number line = option_map_or (λ argument. keys_from number first_column (parts_in argument)) (argument citation line) []

-- the keys that these lines cite, the first of which has this number
abbrev pub keys_in_lines : ℕ → List Text → List CitedKey
keys_in_lines number [] = []
keys_in_lines number (line ∷ lines) = keys_in_line number line ++ keys_in_lines (number + 1) lines

-- the keys that an aux file with this text cites, in order, each with its line and its column, which count from 1
abbrev pub cited_keys : Text → List CitedKey
cited_keys text = keys_in_lines 1 (slice_split (λ b. b == line_feed) text)
