-- One step of reading keys and entries.
use Rattle.std.specs.Prelude.{ℕ, ◌≤◌, false, ◌||◌, List, [], ◌∷◌, ◌++◌, Option, Some, None, is_none, unwrap_or, if◌then◌else◌, find, option_and_then}
use Rattle.std.specs.List.{list_any, AllByRecursion}
use Rattle.bib_spec.specs.Text.{Text, same}
use Rattle.bibtex_spec.specs.Places.{is_star, Place}
use Rattle.bibtex_spec.specs.Listed.{place_with, holder}

-- the cited keys with one more, unless it is `*` or was cited before
abbrev pub with_cited : List Text → Text → List Text
with_cited cited key = if is_star key || list_any (same key) cited then cited else cited ++ key ∷ []

-- how the key is spelled: as it is cited, or else as the other text
abbrev pub spelled_as : List Text → Text → Text → Text
spelled_as cited key other = unwrap_or (find (same key) cited) other

-- the place with this number, if no entry holds it
abbrev pub if_empty : List Place → ℕ → Option ℕ
if_empty places i = if is_none (holder places i) then Some i else None

-- the number of the place that awaits an entry of this key, if any
abbrev pub awaiting : Text → List Place → Option ℕ
awaiting key places = option_and_then (if_empty places) (place_with key places)

-- no place is named by more entries than this
abbrev pub CountsAtMost : ℕ → List Place → Type 0
CountsAtMost n places = AllByRecursion (λ place. place.count ≤ n) places

-- the place of a key that only `*` cites, with its entry n
abbrev pub place_of : Text → ℕ → Place
place_of key n = record { spelled = key; entry = Some n; count = 0; is_cited = false }
