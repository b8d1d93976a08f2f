-- Which ids have a text, and what an index says of it.
use Rattle.std.specs.Prelude.{◌≡◌, ◌≤◌, ◌<◌, ℕ, Bool, true, false, not, ◌==◌, List, [], length, filter, insert, remove, slice_index, Option, None, Some, if◌then◌else◌, bytes_eq}
use Rattle.bib_spec.specs.Text.{Text, folded}
use Rattle.folded_map.specs.FoldedMap.{value_at}
use Rattle.bib_order.specs.Holders.{holders}

-- there is a text, and folded it is x
abbrev pub is_text : Option Text → Text → Bool
is_text None x = false
is_text (Some t) x = bytes_eq x (folded t)

-- the text of the id is this one, once folded
abbrev pub has_text : (ℕ → Option Text) → Text → ℕ → Bool
has_text texts x id = is_text (texts id) x

-- the texts of the ids, except that this id has text t, or none if t is none
abbrev pub with_text : (ℕ → Option Text) → ℕ → Option Text → ℕ → Option Text
with_text texts id t other = if other == id then t else texts other

-- the index has, for each folded text, the ids that have it, in their order
abbrev pub IsIndexOf : (ℕ → Option Text) → List ℕ → (Text → List ℕ) → Type 0
IsIndexOf texts order index = (x : Text) → index x ≡ holders (has_text texts x) order

-- the test, which this id passes too
abbrev pub also : ℕ → (ℕ → Bool) → ℕ → Bool
also id test other = if other == id then true else test other

-- the ids without this one
abbrev pub without : ℕ → List ℕ → List ℕ
without id ids = filter (λ other. not (other == id)) ids

-- the folded text has these ids now, and every other text has the ids that it had
abbrev pub Has : (Text → List ℕ) → Text → List ℕ → (Text → List ℕ) → Type 0
Has old text ids new = (x : Text) → new x ≡ (if bytes_eq x text then ids else old x)

-- a list, if there is one
abbrev pub members : Option (List ℕ) → List ℕ
members None = []
members (Some ids) = ids

-- the ids of a folded text, in lists that are kept by text
abbrev pub ids_in : List (Text × List ℕ) → Text → List ℕ
ids_in lists x = members (value_at lists x)

-- no text has two ids
abbrev pub HaveOneAtMost : List (Text × List ℕ) → Type 0
HaveOneAtMost lists = (x : Text) → length (ids_in lists x) ≤ 1

-- each text has the ids that it had
abbrev pub IsKept : (Text → List ℕ) → (Text → List ℕ) → Type 0
IsKept old new = (x : Text) → new x ≡ old x

-- an index stays right while ids without a text come and go
pub record TextsFollow : Type 0 where
  pub inserted : (texts : ℕ → Option Text) (order : List ℕ) (index : Text → List ℕ) (n id : ℕ) → n ≤ length order → texts id ≡ None → IsIndexOf texts order index → IsIndexOf texts (insert order n id) index
  pub removed : (texts : ℕ → Option Text) (order : List ℕ) (index : Text → List ℕ) (n : ℕ) → n < length order → texts (slice_index order n) ≡ None → IsIndexOf texts order index → IsIndexOf texts (remove order n) index
