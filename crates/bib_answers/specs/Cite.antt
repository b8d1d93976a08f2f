-- `cite`: the entries that a list of keys cites.
use Rattle.std.specs.Prelude.{ℕ, ◌≡◌, ◌==◌, Bool, List, [], ◌∷◌, ◌++◌, Option, if◌then◌else◌, slice_index_or, codes}
use Rattle.std.specs.List.{flat_map, list_any}
use Rattle.std.specs.Option.{option_map_or}
use Rattle.bib_spec.specs.Text.{Text}
use Rattle.bib_spec.specs.Reading.{Reading}
use Rattle.bib_spec.specs.Records.{EntryTexts, entries_of, parent, listed, unknown}
use Rattle.bib_store.specs.Readings.{OfReading}
use Rattle.bib_answers.specs.declared.answers.Answer.{Answer}
use Rattle.bib_answers.specs.declared.listing.Keyed.{Keyed}
use Rattle.bib_answers.specs.declared.listing.Line.{Line}
use Rattle.bib_answers.specs.Entries.{key_at}
use Rattle.bib_answers.specs.Outcome.{answer_of}

-- the key is that of the entry with this number
abbrev pub IsKeyed : Text → Keyed → Type 0
IsKeyed file k = OfReading file (λ db. k.key.now ≡ key_at (entries_of db) k.n)

-- a tab and the key of a parent, if there is one
abbrev pub parent_bytes : Option Keyed → Text
parent_bytes parent = option_map_or (λ (k : Keyed). codes "\t" ++ k.key.now) parent []

-- a key and, after a tab, the key of a parent, if there is one, a line
abbrev pub line_bytes : Line → Text
line_bytes line = line.key.now ++ (parent_bytes line.parent ++ codes "\n")

-- a tab and the key of the entry, if it is in the list
abbrev pub with_listed : List EntryTexts → List ℕ → ℕ → Text
with_listed entries list m = if list_any (λ n. n == m) list then codes "\t" ++ key_at entries m else []

-- the key of entry n and, after a tab, the key of its parent, if the parent is in the list too, a line
abbrev pub listed_line : List EntryTexts → List ℕ → ℕ → Text
listed_line entries list n =
    key_at entries n ++ (option_map_or (with_listed entries list) (parent entries n) [] ++ codes "\n")

-- a question mark and the key at this position, as it was given, a line
abbrev pub unknown_line : List Text → ℕ → Text
unknown_line keys place = codes "? " ++ (slice_index_or keys place [] ++ codes "\n")

-- a line for each entry of the list
abbrev pub listed_lines : List EntryTexts → List ℕ → Text
listed_lines entries list = flat_map (listed_line entries list) list

-- the status of `cite` if the keys at these positions find no entry: with `--strict` it is 1 if there is one of them (dialect)
abbrev pub cite_status : Bool → List ℕ → ℕ
cite_status strict [] = 0
cite_status strict (position ∷ more) = if strict then 1 else 0

-- `cite F KEY..`: the entries listed, and then the keys that find none; a parent is listed too if `min` listed entries refer to it (dialect)
abbrev pub cite_answer : Bool → List Text → ℕ → Reading → Answer
cite_answer strict keys min db =
    let entries = entries_of db in
    answer_of (listed_lines entries (listed entries keys min) ++ flat_map (unknown_line keys) (unknown entries keys)) [] (cite_status strict (unknown entries keys))
