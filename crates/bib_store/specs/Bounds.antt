-- What holds of each item whatever macros stand for, and how long the items are at most.
use Rattle.std.specs.Prelude.{ℕ, ◌≡◌, ◌≤◌, Bool, true, false, List, [], ◌∷◌, Option, length, map}
use Rattle.std.specs.List.{AllByRecursion}
use Rattle.bib_spec.specs.Bytes.{name_limit}
use Rattle.bib_spec.specs.Text.{Text}
use Rattle.bib_spec.specs.Tree.{Part, Braced, Quoted, Digits, Macro, Tree, IsTree, tree_bytes}
use Rattle.bib_spec.specs.Reading as reading
use Rattle.bib_spec.specs.Texts.{Macros}
use Rattle.bib_spec.specs.Records.{entry_in, crossref_text}
use Rattle.bib_scan.specs.View.{View, view_of}
use Rattle.bib_definitions.specs.Definitions.{defined_by}
use Rattle.bib_store.specs.Readings.{is_entry_tree}
use Rattle.bib_store.specs.declared.bounds.Bounds.{Bounds}

-- the part is not the name of a macro
abbrev pub is_literal : Part → Bool
is_literal (Braced t) = true
is_literal (Quoted t) = true
is_literal (Digits t) = true
is_literal (Macro t) = false

-- no part is the name of a macro
abbrev pub AreLiteral : List Part → Type 0
AreLiteral parts = AllByRecursion (λ p. is_literal p ≡ true) parts

-- whatever macros stand for, an entry's crossref says the same, and a definition gives the same text
pub record IsSettled (tree : Tree) : Type 0 where
  pub crossref : (a b : Macros) → map crossref_text (entry_in a tree) ≡ map crossref_text (entry_in b tree)
  pub text : (a b : Macros) → defined_by a tree ≡ defined_by b tree

-- an entry whose crossref says this under some macros is settled
abbrev pub IsSettledEntry : View → Option Text → Type 0
IsSettledEntry entry said = (m : Macros) (i : reading.Item) → IsTree name_limit i.tree → is_entry_tree i.tree ≡ true → entry ≡ view_of i → map crossref_text (entry_in m i.tree) ≡ said ∷ [] → IsSettled i.tree

-- all of the items are settled
abbrev pub AreAllSettled : List reading.Item → Type 0
AreAllSettled items = AllByRecursion (λ i. IsSettled i.tree) items

-- the body is no longer than the longest, and if the bounds say that all items are settled, this one is
pub record IsBounded (bounds : Bounds) (tree : Tree) : Type 0 where
  pub body : length (tree_bytes tree) ≤ bounds.longest_body
  pub settled : bounds.settled ≡ true → IsSettled tree

-- each of the items is within the bounds
abbrev pub AreBounded : Bounds → List reading.Item → Type 0
AreBounded bounds items = AllByRecursion (λ i. IsBounded bounds i.tree) items

-- the new bounds hold of what the old ones held, and of one more item: its body has `len` bytes, and it is settled if
-- `settled` is true
pub record Admits (len : ℕ) (settled : Bool) (old new : Bounds) : Type 0 where
  pub one : (tree : Tree) → length (tree_bytes tree) ≡ len → (settled ≡ true → IsSettled tree) → IsBounded new tree
  pub all : (items : List reading.Item) → AreBounded old items → AreBounded new items
