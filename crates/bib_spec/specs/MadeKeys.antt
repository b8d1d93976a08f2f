-- Made keys: keys that are computed from records.
use Rattle.std.specs.Prelude.{◌≡◌, ◌≤◌, ℕ, zero, suc, ◌+◌, Bool, true, not, ◌==◌, List, [], ◌∷◌, ◌++◌, unwrap_or, if◌then◌else◌, reverse, length, map, find}
use Rattle.std.specs.List.{list_any, enumerate_from}
use Rattle.bib_spec.specs.Text.{Text, is_new_key, same}
use Rattle.bib_spec.specs.Records.{EntryTexts, Record, record_of, dangling_texts}

-- ---- candidates

-- the letters of the next candidate, the last letter first: after no letters comes `a`, after `z` comes `aa`
abbrev pub next_letters : Text → Text
next_letters [] = 97 ∷ []
next_letters (c ∷ cs) = if c == 122 then 97 ∷ next_letters cs else (c + 1) ∷ cs

-- the letters of the n-th candidate, the last letter first
abbrev pub letters : ℕ → Text
letters zero = []
letters (suc n) = next_letters (letters n)

-- the n-th candidate: the base alone, then with `a`, .. `z`, `aa` and so on after it (dialect)
abbrev pub candidate : Text → ℕ → Text
candidate base n = base ++ reverse (letters n)

-- `count` candidates, from the n-th on
abbrev pub candidates : Text → ℕ → ℕ → List Text
candidates base n zero = []
candidates base n (suc count) = candidate base n ∷ candidates base (suc n) count

-- the key is one of these, folded
abbrev pub is_taken : List Text → Text → Bool
is_taken taken key = list_any (same key) taken

-- the first candidate that is not taken (one of the first t + 1 candidates is free if t keys are taken)
abbrev pub free_key : List Text → Text → Text
free_key taken base = unwrap_or (find (λ key. not (is_taken taken key)) (candidates base 0 (suc (length taken)))) base

-- ---- the keys of all entries

-- a free key for each base in turn; each counts as taken for those that follow
abbrev pub made_keys : List Text → List Text → List Text
made_keys taken [] = []
made_keys taken (base ∷ bases) = free_key taken base ∷ made_keys (free_key taken base ∷ taken) bases

-- the base of each entry's made key, from its record at this depth
abbrev pub bases : (Record → Text) → ℕ → List EntryTexts → List Text
bases key_base depth entries = map (λ p. key_base (record_of depth entries p.0 p.1)) (enumerate_from 0 entries)

-- The made keys of all entries: each is the first candidate of its base that is neither the made key of an earlier entry nor
-- the text of a dangling crossref. (dialect)
abbrev pub new_keys : (Record → Text) → ℕ → List EntryTexts → List Text
new_keys key_base depth entries = made_keys (dangling_texts entries) (bases key_base depth entries)

-- the longest base, in bytes (dialect)
abbrev pub base_limit : ℕ
base_limit = 40

-- the function gives bases: a base does not depend on the entry's key, and is itself a key of at most 40 bytes (dialect)
pub record IsKeyBase (key_base : Record → Text) : Type 0 where
  pub ignores_key : (r : Record) (key : Text) → key_base (record r { key = key }) ≡ key_base r
  pub is_key : (r : Record) → is_new_key (key_base r) ≡ true
  pub short : (r : Record) → length (key_base r) ≤ base_limit
