-- A name that is not in use among items: what each part and each definition then is.
use Rattle.edit_spec.proofs.Words.{◌≡◌, Bool, false, ◌||◌, List, ◌∷◌, map, list_any, AllByRecursion, or_parts, Text, same, Part, Value, Row, Tree, CommentTree, DefinitionTree, PreambleTree, EntryTree, Item, parts_of, any_part, defines}
use Rattle.std.proofs.Common.{[]}
use Rattle.edit_spec.proofs.Simulation.{Parts, Rows, InTree, InItems}

pub all_of : {X : Type 0} (P : X → Type 0) → ((x : X) → P x) → (xs : List X) → AllByRecursion P xs
all_of P p [] = tt
all_of P p (x ∷ xs) = (p x, all_of P p xs)

pub none_of : {X : Type 0} (P : X → Type 0) (test : X → Bool) → ((x : X) → test x ≡ false → P x) → (xs : List X) → list_any test xs ≡ false → AllByRecursion P xs
none_of P test p [] h = tt
none_of P test p (x ∷ xs) h = let both = or_parts (test x) (list_any test xs) h in (p x both.0, none_of P test p xs both.1)

module _ (P : Part → Type 0) (Q : Text → Type 0) where
  parts_all : ((part : Part) → P part) → (v : Value) → Parts P v
  parts_all p v = all_of P p (parts_of v)

  rows_all : ((part : Part) → P part) → (rows : List Row) → Rows P rows
  rows_all p rows = all_of (Parts P) (parts_all p) (map (λ row. row.assignment.value) rows)

  pub InTree_undefined : (name : Text) → ((part : Part) → P part) → ((defined : Text) → same defined name ≡ false → Q defined) → (tree : Tree) → defines name tree ≡ false → InTree P Q tree
  InTree_undefined name p q (CommentTree c) h = tt
  InTree_undefined name p q (DefinitionTree d) h = (q d.assignment.name h, parts_all p d.assignment.value)
  InTree_undefined name p q (PreambleTree t) h = parts_all p t.value
  InTree_undefined name p q (EntryTree e) h = rows_all p e.rows

  module _ (test : Part → Bool) (p : (part : Part) → test part ≡ false → P part) where
    parts_none : (v : Value) → list_any test (parts_of v) ≡ false → Parts P v
    parts_none v h = none_of P test p (parts_of v) h

    values_none : (vs : List Value) → list_any (λ v. list_any test (parts_of v)) vs ≡ false → AllByRecursion (Parts P) vs
    values_none vs h = none_of (Parts P) (λ v. list_any test (parts_of v)) parts_none vs h

    module _ (name : Text) (q : (defined : Text) → same defined name ≡ false → Q defined) where
      pub InTree_none : (tree : Tree) → (defines name tree || any_part test tree) ≡ false → InTree P Q tree
      InTree_none (CommentTree c) h = tt
      InTree_none (DefinitionTree d) h =
          let both = or_parts (same d.assignment.name name) (any_part test (DefinitionTree d)) h in
          (q d.assignment.name both.0, (values_none (d.assignment.value ∷ []) both.1).0)
      InTree_none (PreambleTree t) h = (values_none (t.value ∷ []) h).0
      InTree_none (EntryTree e) h = values_none (map (λ row. row.assignment.value) e.rows) h

      pub InItems_none : (items : List Item) → list_any (λ item. defines name item.tree || any_part test item.tree) items ≡ false → InItems P Q items
      InItems_none items h = none_of (λ item. InTree P Q item.tree) (λ item. defines name item.tree || any_part test item.tree) (λ item. InTree_none item.tree) items h

  InTree_all : ((part : Part) → P part) → ((name : Text) → Q name) → (tree : Tree) → InTree P Q tree
  InTree_all p q (CommentTree c) = tt
  InTree_all p q (DefinitionTree d) = (q d.assignment.name, parts_all p d.assignment.value)
  InTree_all p q (PreambleTree t) = parts_all p t.value
  InTree_all p q (EntryTree e) = rows_all p e.rows

  pub InItems_all : ((part : Part) → P part) → ((name : Text) → Q name) → (items : List Item) → InItems P Q items
  InItems_all p q items = all_of (λ item. InTree P Q item.tree) (λ item. InTree_all p q item.tree) items
