-- The items up to the last definition before the first entry, counted back from that entry.
use Rattle.bib_edit.proofs.Words.{◌≡◌, ℕ, zero, suc, ◌+◌, ◌≤◌, ◌<◌, List, [], ◌∷◌, Some, slice_get, length, take, map, filter, refl, sym, ◌∙◌, ap, arith, enumerate_from, none-some, same_Some, Text, Tree, CommentTree, DefinitionTree, PreambleTree, EntryTree, Item, Reading, entries_of}
use Rattle.bib_edit.proofs.Words.{is_entry_tree, entry_numbers, length-entry_numbers}
use Rattle.bib_scan.specs.View.{kind_of}
use Rattle.bib_scan.specs.declared.view.Kind.TheVariants as kind
use Rattle.edit_spec.specs.Edits.{definitions_end_with, definitions_end}
use Rattle.edit_spec.specs.OtherLaws.{number_of_first}

-- how many items there are before the first entry
abbrev pub lead : List Item → ℕ
lead items = number_of_first is_entry_tree items

abbrev item_at : Tree → Text → Item
item_at tree trail = record { tree = tree; trail = trail }

-- ---- the first entry

-- the numbers of the entries among items; the first item has this number
abbrev numbers_from : ℕ → List Item → List ℕ
numbers_from at items = map (λ p. p.0) (filter (λ p. is_entry_tree p.1.tree) (enumerate_from at items))

none_after : (at : ℕ) (tree : Tree) (trail : Text) (items : List Item) → (length (numbers_from (at + 1) items) ≡ 0 → lead items ≡ length items) →
    length (numbers_from at (item_at tree trail ∷ items)) ≡ 0 → lead (item_at tree trail ∷ items) ≡ suc (length items)
none_after at (CommentTree c) trail items rest none = ap suc (rest none)
none_after at (DefinitionTree d) trail items rest none = ap suc (rest none)
none_after at (PreambleTree p) trail items rest none = ap suc (rest none)
none_after at (EntryTree e) trail items rest none = absurd (omega (arith, none))

none_leads : (at : ℕ) (items : List Item) → length (numbers_from at items) ≡ 0 → lead items ≡ length items
none_leads at [] none = refl
none_leads at (item ∷ items) none = none_after at item.tree item.trail items (none_leads (at + 1) items) none

first_after : (at : ℕ) (tree : Tree) (trail : Text) (items : List Item) (n : ℕ) → (slice_get (numbers_from (at + 1) items) 0 ≡ Some n → at + 1 + lead items ≡ n) →
    slice_get (numbers_from at (item_at tree trail ∷ items)) 0 ≡ Some n → at + lead (item_at tree trail ∷ items) ≡ n
first_after at (CommentTree c) trail items n rest e = let is = rest e in omega (arith, is)
first_after at (DefinitionTree d) trail items n rest e = let is = rest e in omega (arith, is)
first_after at (PreambleTree p) trail items n rest e = let is = rest e in omega (arith, is)
first_after at (EntryTree x) trail items n rest e = let is = same_Some at n e in omega (arith, is)

first_leads : (at : ℕ) (items : List Item) (n : ℕ) → slice_get (numbers_from at items) 0 ≡ Some n → at + lead items ≡ n
first_leads at [] n e = absurd (none-some n e)
first_leads at (item ∷ items) n e = first_after at item.tree item.trail items n (first_leads (at + 1) items n) e

-- where no item is an entry
pub none-leads : (db : Reading) → length (entries_of db) ≡ 0 → length db.items ≡ lead db.items
none-leads db none = sym (none_leads 0 db.items (length-entry_numbers db ∙ none))

-- where the first entry has this number
pub first-leads : (db : Reading) (n : ℕ) → slice_get (entry_numbers db.items) 0 ≡ Some n → n ≡ lead db.items
first-leads db n e = let is = first_leads 0 db.items n e in omega (arith, is)

lead_with : (tree : Tree) (trail : Text) (items : List Item) → lead items ≤ length items → lead (item_at tree trail ∷ items) ≤ suc (length items)
lead_with (CommentTree c) trail items low = omega (arith, low)
lead_with (DefinitionTree d) trail items low = omega (arith, low)
lead_with (PreambleTree p) trail items low = omega (arith, low)
lead_with (EntryTree e) trail items low = omega arith

pub lead-within : (items : List Item) → lead items ≤ length items
lead-within [] = omega arith
lead-within (item ∷ items) = lead_with item.tree item.trail items (lead-within items)

-- ---- back from there

-- the end is that among the first k items
abbrev pub IsEndIn : List Item → ℕ → Type 0
IsEndIn items k = definitions_end items ≡ definitions_end (take k items)

lead_ends : (tree : Tree) (trail : Text) (items : List Item) → IsEndIn items (lead items) → IsEndIn (item_at tree trail ∷ items) (lead (item_at tree trail ∷ items))
lead_ends (CommentTree c) trail items is = ap (definitions_end_with (CommentTree c)) is
lead_ends (DefinitionTree d) trail items is = ap (definitions_end_with (DefinitionTree d)) is
lead_ends (PreambleTree p) trail items is = ap (definitions_end_with (PreambleTree p)) is
lead_ends (EntryTree e) trail items is = refl

pub end-lead : (items : List Item) → IsEndIn items (lead items)
end-lead [] = refl
end-lead (item ∷ items) = lead_ends item.tree item.trail items (end-lead items)

-- an item before the first entry is no entry
lead_less : (tree : Tree) (trail : Text) (items : List Item) (k : ℕ) → suc k < lead (item_at tree trail ∷ items) → k < lead items
lead_less (CommentTree c) trail items k low = omega (arith, low)
lead_less (DefinitionTree d) trail items k low = omega (arith, low)
lead_less (PreambleTree p) trail items k low = omega (arith, low)
lead_less (EntryTree e) trail items k low = absurd (omega (arith, low))

-- the last of these items is a definition
one_definition : (tree : Tree) → kind_of tree ≡ kind.Macro → definitions_end_with tree 0 ≡ 1
one_definition (DefinitionTree d) k = refl
one_definition (CommentTree c) k = absurd (cc)
one_definition (PreambleTree p) k = absurd (cc)
one_definition (EntryTree e) k = absurd (cc)

more_defined : (tree : Tree) (trail : Text) (items : List Item) (k : ℕ) → suc k < lead (item_at tree trail ∷ items) → definitions_end_with tree (suc k) ≡ suc (suc k)
more_defined (CommentTree c) trail items k low = refl
more_defined (DefinitionTree d) trail items k low = refl
more_defined (PreambleTree p) trail items k low = refl
more_defined (EntryTree e) trail items k low = absurd (omega (arith, low))

last_defines : (items : List Item) (k : ℕ) (item : Item) → slice_get items k ≡ Some item → k < lead items → kind_of item.tree ≡ kind.Macro → definitions_end (take (suc k) items) ≡ suc k
last_defines [] k item at low is = absurd (none-some item at)
last_defines (x ∷ xs) zero item at low is = one_definition x.tree (ap (λ (i : Item). kind_of i.tree) (same_Some x item at) ∙ is)
last_defines (x ∷ xs) (suc k) item at low is =
    ap (definitions_end_with x.tree) (last_defines xs k item at (lead_less x.tree x.trail xs k low) is) ∙ more_defined x.tree x.trail xs k low

-- or it is none
none_here : (tree : Tree) (trail : Text) (items : List Item) → 0 < lead (item_at tree trail ∷ items) → (kind_of tree ≡ kind.Macro → ⊥) → definitions_end_with tree 0 ≡ 0
none_here (CommentTree c) trail items low other = refl
none_here (PreambleTree p) trail items low other = refl
none_here (DefinitionTree d) trail items low other = absurd (other refl)
none_here (EntryTree e) trail items low other = refl

last_passes : (items : List Item) (k : ℕ) (item : Item) → slice_get items k ≡ Some item → k < lead items → (kind_of item.tree ≡ kind.Macro → ⊥) → definitions_end (take (suc k) items) ≡ definitions_end (take k items)
last_passes [] k item at low other = absurd (none-some item at)
last_passes (x ∷ xs) zero item at low other = none_here x.tree x.trail xs low (λ is. other (sym (ap (λ (i : Item). kind_of i.tree) (same_Some x item at)) ∙ is))
last_passes (x ∷ xs) (suc k) item at low other = ap (definitions_end_with x.tree) (last_passes xs k item at (lead_less x.tree x.trail xs k low) other)

module _ (items : List Item) (end k : ℕ) (is : IsEndIn items end) (its : end ≡ suc k) (low : end ≤ lead items) (item : Item) (at : slice_get items k ≡ Some item) where
  abbrev here : k < lead items
  here = omega (arith, its, low)

  -- the item before this end is a definition
  pub end-definition : kind_of item.tree ≡ kind.Macro → end ≡ definitions_end items
  end-definition defines = its ∙ sym (is ∙ ap (λ n. definitions_end (take n items)) its ∙ last_defines items k item at here defines)

  -- or it is none
  pub end-other : (kind_of item.tree ≡ kind.Macro → ⊥) → IsEndIn items k
  end-other other = is ∙ ap (λ n. definitions_end (take n items)) its ∙ last_passes items k item at here other
