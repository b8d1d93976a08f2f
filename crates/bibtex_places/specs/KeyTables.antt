-- Tables from folded keys to numbers.
use Rattle.std.specs.Prelude.{ℕ, ◌≡◌, nat_le, List, length, Option, Some, if◌then◌else◌}
use Rattle.bib_spec.specs.Bytes.{name_limit}
use Rattle.bib_spec.specs.Text.{Text, folded, same}
use Rattle.folded_map.specs.FoldedMap.{value_at}
use Rattle.bibtex_spec.specs.Listed.{first_same}

-- The numbers of keys that are no longer than a key of a file may be, and those of longer ones.
pub record Numbers : Type 0 where
  pub short : List (Text × ℕ)
  pub long : List (Text × ℕ)

-- the number of a key
abbrev pub number_of : Numbers → Text → Option ℕ
number_of table key = if nat_le (length key) name_limit then value_at table.short (folded key) else value_at table.long (folded key)

-- the table has the number of the first of these keys that is the same as a name
abbrev pub FindsKeys : Numbers → List Text → Type 0
FindsKeys table keys = (name : Text) → number_of table name ≡ first_same name keys

-- the key has this number, and the numbers of other keys are unchanged
abbrev pub IsNumbered : Numbers → Text → ℕ → Numbers → Type 0
IsNumbered old key n new = (name : Text) → number_of new name ≡ (if same name key then Some n else number_of old name)
