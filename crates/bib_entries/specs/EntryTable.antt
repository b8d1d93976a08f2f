-- What a table says of the entries of a file.
use Rattle.std.specs.Prelude.{ℕ, ◌≡◌, ◌≢◌, ◌≤◌, Bool, false, nat_le, List, [], ◌∷◌, length, map, filter, Option, None, Some, slice_index_or, count_by, if◌then◌else◌}
use Rattle.std.specs.List.{enumerate_from}
use Rattle.std.specs.Option.{option_map_or}
use Rattle.bib_spec.specs.Bytes.{name_limit}
use Rattle.bib_spec.specs.Text.{Text}
use Rattle.bib_spec.specs.Records.{is_named}
use Rattle.bib_order.specs.Orders.{Lacks}
use Rattle.bib_index.specs.KeyIndex.{IsIndexOf, ids_in}

-- what is kept: the ids of the entries in file order, the ids that have each key, the crossref text of each id, and the
-- ids whose crossref texts name each key
pub record Kept : Type 0 where
  pub ids : List ℕ
  pub keys : List (Text × List ℕ)
  pub crossrefs : List (Option Text)
  pub referring : List (Text × List ℕ)

-- a key as a name: an empty one names nothing
abbrev pub name_of : Text → Option Text
name_of [] = None
name_of (b ∷ bs) = Some (b ∷ bs)

-- the key that a crossref text names: one that is longer than a key may be names nothing
abbrev pub named_by : Option Text → Option Text
named_by None = None
named_by (Some text) = if nat_le (length text) name_limit then name_of text else None

-- the crossref text of an id: one for which nothing is kept has none
abbrev pub crossref_of : List (Option Text) → ℕ → Option Text
crossref_of crossrefs id = slice_index_or crossrefs id None

-- the ids have these names, in order, and the index says so; an id that is not in use has no name
pub record AreNamed (said : List (Option Text)) (ids : List ℕ) (keys : List (Text × List ℕ)) : Type 0 where
  pub names : ℕ → Option Text
  pub named : map names ids ≡ said
  pub others : (id : ℕ) → Lacks ids id → names id ≡ None
  pub index : IsIndexOf names ids (ids_in keys)

-- the table is that of entries with these keys and crossref texts, in this order
pub record IsTableOf (keys : List Text) (crossrefs : List (Option Text)) (t : Kept) : Type 0 where
  pub keyed : AreNamed (map name_of keys) t.ids t.keys
  pub referring : AreNamed (map named_by crossrefs) t.ids t.referring
  pub said : map (crossref_of t.crossrefs) t.ids ≡ crossrefs

-- ---- what keys and crossrefs name

-- the numbers of the entries that have the key, in order
abbrev pub numbers_having : Text → List Text → List ℕ
numbers_having key keys = map (λ p. p.0) (filter (λ p. is_named key p.1) (enumerate_from 0 keys))

-- the crossref text names the key
abbrev pub refers : Text → Option Text → Bool
refers key crossref = option_map_or (λ text. is_named text key) crossref false

-- the numbers of the entries whose crossref texts name the key, in order
abbrev pub referrers : Text → List (Option Text) → List ℕ
referrers key crossrefs = map (λ p. p.0) (filter (λ p. refers key p.1) (enumerate_from 0 crossrefs))

-- the new table says of entries all that the old one says
abbrev pub SaysTheSame : Kept → Kept → Type 0
SaysTheSame old new = (keys : List Text) (crossrefs : List (Option Text)) → IsTableOf keys crossrefs old → IsTableOf keys crossrefs new

-- no two of the keys are the same, folded; empty keys do not count
abbrev pub AreApart : List Text → Type 0
AreApart keys = (text : Text) → count_by (is_named text) keys ≤ 1

-- ---- one id

-- the id has this name now, and the others have those that they had
pub record GivesName (old new : ℕ → Option Text) (id : ℕ) (name : Option Text) : Type 0 where
  pub itself : new id ≡ name
  pub others : (other : ℕ) → other ≢ id → new other ≡ old other

-- the index is that of these names, except that the id has this name
pub record IsIndexWith (old : ℕ → Option Text) (id : ℕ) (name : Option Text) (ids : List ℕ) (keys : List (Text × List ℕ)) : Type 0 where
  pub names : ℕ → Option Text
  pub gives : GivesName old names id name
  pub index : IsIndexOf names ids (ids_in keys)

-- if the old index is that of some names, and the id has none of them, the new index is that of these names too
abbrev pub StaysIndex : ℕ → List ℕ → List (Text × List ℕ) → List (Text × List ℕ) → Type 0
StaysIndex id ids old new = (names : ℕ → Option Text) → names id ≡ None → IsIndexOf names ids (ids_in old) → IsIndexOf names ids (ids_in new)

-- the id has this crossref text now, and the others have those that they had
pub record GivesCrossref (old new : List (Option Text)) (id : ℕ) (crossref : Option Text) : Type 0 where
  pub itself : crossref_of new id ≡ crossref
  pub others : (other : ℕ) → other ≢ id → crossref_of new other ≡ crossref_of old other

-- each id has the crossref text that it had
abbrev pub HaveTheSame : List (Option Text) → List (Option Text) → Type 0
HaveTheSame old new = (id : ℕ) → crossref_of new id ≡ crossref_of old id
