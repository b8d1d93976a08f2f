-- The tables' word for the definitions of a name is that of the edits.
use Rattle.bib_edit.proofs.Words.{◌≡◌, ℕ, suc, Bool, cond, List, [], ◌∷◌, Option, Some, option_map, count_by, refl, ap, ap₂, Text, Tree, CommentTree, DefinitionTree, PreambleTree, EntryTree, Item, Reading, defines, definitions, first_item}
use Rattle.bib_definitions.specs.Definitions.{is_definition_of, definition_count, first_definition}

module _ (name : Text) where
  same_test : (tree : Tree) → is_definition_of name tree ≡ defines name tree
  same_test (DefinitionTree d) = refl
  same_test (CommentTree h) = refl
  same_test (PreambleTree p) = refl
  same_test (EntryTree e) = refl

  pub tabled-count : (db : Reading) → definition_count name db.items ≡ definitions name db
  tabled-count db = ap (λ (test : Item → Bool). count_by test db.items) (λ i item. same_test item.tree i)

  pub tabled-first : (items : List Item) → first_definition name items ≡ first_item (defines name) items
  tabled-first [] = refl
  tabled-first (item ∷ items) = ap₂ (λ (b : Bool) (n : Option ℕ). cond b (Some 0) (option_map suc n)) (same_test item.tree) (tabled-first items)
