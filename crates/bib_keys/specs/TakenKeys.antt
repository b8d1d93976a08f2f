-- Keys that are taken, as they are kept.
use Rattle.std.specs.Prelude.{ℕ, ◌≡◌, ◌<◌, ◌≤◌, true, is_some, List, ◌++◌, Some, length}
use Rattle.bib_spec.specs.Bytes.{name_limit}
use Rattle.bib_spec.specs.Text.{Text, folded}
use Rattle.bib_spec.specs.Reading.{Reading}
use Rattle.bib_spec.specs.Records.{entries_of, keys_of, dangling_texts}
use Rattle.bib_spec.specs.MadeKeys.{candidate, is_taken}
use Rattle.folded_map.specs.FoldedMap.{value_at}
use Rattle.bib_keys.specs.declared.taken_keys.TakenKeys.{TakenKeys}

-- the first n candidates of the base are taken
abbrev pub AreTried : List Text → Text → ℕ → Type 0
AreTried keys base n = (k : ℕ) → k < n → is_taken keys (candidate base k) ≡ true

-- What is kept of these keys, which are taken: each key that is no longer than a key may be is found; `tried` says how many
-- candidates of a base are known to be taken; `count` is the number of keys.
pub record AreTaken (keys : List Text) (t : TakenKeys) : Type 0 where
  pub taken : (name : Text) → length name ≤ name_limit → is_some (value_at t.taken (folded name)) ≡ is_taken keys name
  pub tried : (base : Text) (n : ℕ) → value_at t.tried (folded base) ≡ Some n → AreTried keys base n
  pub count : t.count ≡ length keys

-- the keys that no free key may be: the keys of the file, these others, and the texts of dangling crossrefs
abbrev pub taken_in : Reading → List Text → List Text
taken_in db others = keys_of (entries_of db) ++ (others ++ dangling_texts (entries_of db))
