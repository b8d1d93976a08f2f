-- What a kept item needs, without the walk that finds it; and that the walk finds all of it and nothing else.
use Rattle.std.specs.Prelude.{ℕ, zero, suc, ◌≡◌, ◌==◌, Bool, true, false, List, [], ◌∷◌, Option, Some, None, unwrap_or, if◌then◌else◌, slice_get}
use Rattle.std.specs.List.{list_any}
use Rattle.std.specs.Option.{option_map_or}
use Rattle.bib_spec.specs.Text.{Text, same}
use Rattle.bib_spec.specs.Tree.{Tree, CommentTree, DefinitionTree, PreambleTree, EntryTree}
use Rattle.bib_spec.specs.Reading.{Item}
use Rattle.bib_spec.specs.Records.{EntryTexts, parent}
use Rattle.extract_spec.specs.Extract.{number_after, stays, used_by, kept_from, is_kept_entry}

-- the item is a definition of this name
abbrev pub defines_name : Text → Tree → Bool
defines_name name (DefinitionTree d) = same d.assignment.name name
defines_name name (CommentTree h) = false
defines_name name (PreambleTree p) = false
defines_name name (EntryTree e) = false

-- the position of the last definition of the name before position n, if there is one
abbrev pub definition_before : List Item → ℕ → Text → Option ℕ
definition_before [] n name = None
definition_before (item ∷ items) zero name = None
definition_before (item ∷ items) (suc n) name =
    option_map_or (λ i. Some (suc i)) (definition_before items n name) (if defines_name name item.tree then Some 0 else None)

-- the number of the next entry at position i, if n is that at the first position
abbrev pub number_at : ℕ → List Item → ℕ → ℕ
number_at n [] i = n
number_at n (item ∷ items) zero = n
number_at n (item ∷ items) (suc i) = number_at (number_after n item.tree) items i

-- The set of positions has each entry that is kept, each preamble, and for each use of a macro in one of its items the last
-- definition before that item.
pub record HasItsNeeds (keeps : ℕ → Bool) (n : ℕ) (items : List Item) (set : ℕ → Bool) : Type 0 where
  pub alone : (i : ℕ) (item : Item) → slice_get items i ≡ Some item → stays keeps (number_at n items i) [] item.tree ≡ true → set i ≡ true
  pub uses : (i j : ℕ) (item : Item) (name : Text) → set j ≡ true → slice_get items j ≡ Some item → list_any (same name) (used_by item.tree) ≡ true
      → definition_before items j name ≡ Some i → set i ≡ true

-- the item at position i is kept
abbrev pub is_kept_at : (ℕ → Bool) → ℕ → List Item → ℕ → Bool
is_kept_at keeps n items i = unwrap_or (slice_get (kept_from keeps n items) i) false

-- the kept items have their needs
abbrev pub kept_have_needs : Type 0
kept_have_needs = (keeps : ℕ → Bool) (n : ℕ) (items : List Item) → HasItsNeeds keeps n items (is_kept_at keeps n items)

-- every set that has its needs has all kept items
abbrev pub kept_are_least : Type 0
kept_are_least = (keeps : ℕ → Bool) (n : ℕ) (items : List Item) (set : ℕ → Bool) → HasItsNeeds keeps n items set → (i : ℕ) → is_kept_at keeps n items i ≡ true → set i ≡ true

-- every set of entries that has those of the list, and the parent of each of its entries, has all kept entries
abbrev pub kept_entries_are_least : Type 0
kept_entries_are_least = (entries : List EntryTexts) (list : List ℕ) (set : ℕ → Bool) → ((n : ℕ) → list_any (λ c. c == n) list ≡ true → set n ≡ true) →
    ((n p : ℕ) → set n ≡ true → parent entries n ≡ Some p → set p ≡ true) → (n : ℕ) → is_kept_entry entries list n ≡ true → set n ≡ true
