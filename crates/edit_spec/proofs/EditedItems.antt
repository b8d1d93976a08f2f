-- Items that an edit leaves, puts in or takes out.
use Rattle.edit_spec.proofs.Words.{◌≡◌, ℕ, Bool, true, false, List, ◌∷◌, ◌++◌, Some, codes, All, find, insert, take, drop, ⊎_elim, refl, sym, ◌∙◌, subst, cases_Bool, cond-true, cond-false, and_parts, false≢true, not-true, none-some, same_Some, All-nil, All-cons, All-head, All-tail, All-append}
use Rattle.edit_spec.proofs.Words.{name_limit, Text, is_name_byte, same, does_not_begin_with, IsClean, IsCleanTrail, Entry, Tree, CommentTree, DefinitionTree, PreambleTree, EntryTree, is_comment, IsEntry, IsTree, Item, Reading, bytes_of, IsItem, Reads, is_empty, is_named, is_entry, from_first}
use Rattle.edit_spec.proofs.Words.{without_first, of_entry, in_line, HasCleanTexts}
use Rattle.std.proofs.Common.{[]}
use Rattle.std.proofs.lemmas.List.Elements.{All-take, All-drop}
use Rattle.bib_spec.specs.Text.{is_type_byte}
use Rattle.edit_spec.proofs.AcceptedExamples.{line_clean}

abbrev pub AreItems : List Item → Type 0
AreItems items = All (IsItem name_limit) items

abbrev pub AreTrees : List Item → Type 0
AreTrees items = All (λ item. IsTree name_limit item.tree) items

pub made_reads : (db : Reading) → IsClean db.front → AreItems db.items → Reads (bytes_of db) db
made_reads db front items = record { bytes = refl; front = front; items = items }

pub trees_of : (items : List Item) → AreItems items → AreTrees items
trees_of items h k d lt = (h k d lt).tree

pub clean_reads : (db : Reading) → AreTrees db.items → HasCleanTexts db → Reads (bytes_of db) db
clean_reads db trees clean = made_reads db clean.front (λ k d lt. record { tree = trees k d lt; trail = clean.trails k d lt })

-- an item with another tree, which is a comment if and only if the old one is
pub item_as : (item : Item) (tree : Tree) → IsItem name_limit item → IsTree name_limit tree → is_comment tree ≡ is_comment item.tree → IsItem name_limit (record item { tree = tree })
item_as item tree is t e = record { tree = t; trail = subst (λ c. IsCleanTrail c item.trail) (sym e) is.trail }

-- ---- a tree in a line of its own

line_ends : does_not_begin_with is_type_byte (codes "\n") ≡ true
unfolding is_name_byte
line_ends = refl

pub in_line-is : (tree : Tree) → IsTree name_limit tree → IsItem name_limit (in_line tree)
in_line-is tree t = record { tree = t; trail = record { clean = line_clean; ends_name = λ e. line_ends } }

pub insert-are : (items : List Item) (place : ℕ) (item : Item) → AreItems items → IsItem name_limit item → AreItems (insert items place item)
insert-are items place item are is =
    All-append (IsItem name_limit) (take place items) (item ∷ drop place items)
    (All-take (IsItem name_limit) place items are) (All-cons (IsItem name_limit) item (drop place items) is (All-drop (IsItem name_limit) place items are))

-- ---- the first item that passes a test

pub found-is : {X : Type 0} (P : X → Type 0) (test : X → Bool) (xs : List X) (x : X) → find test xs ≡ Some x → All P xs → P x
found-is P test [] x e h = absurd (none-some x e)
found-is P test (y ∷ ys) x e h = ⊎_elim
    (λ t. subst P (same_Some y x (sym (cond-true (test y) (Some y) (find test ys) t) ∙ e)) (All-head P y ys h))
    (λ t. found-is P test ys x (sym (cond-false (test y) (Some y) (find test ys) t) ∙ e) (All-tail P y ys h))
    (cases_Bool (test y))

module _ (test : Tree → Bool) where
  pub from_first-are : (P : Item → Type 0) (change : List Item → List Item) →
      ((item : Item) (items : List Item) → test item.tree ≡ true → All P (item ∷ items) → All P (change (item ∷ items))) →
      (items : List Item) → All P items → All P (from_first test change items)
  from_first-are P change becomes [] are = All-nil P
  from_first-are P change becomes (item ∷ items) are = ⊎_elim
      (λ e. subst (All P) (sym (cond-true (test item.tree) (change (item ∷ items)) (item ∷ from_first test change items) e)) (becomes item items e are))
      (λ e. subst (All P) (sym (cond-false (test item.tree) (change (item ∷ items)) (item ∷ from_first test change items) e))
      (All-cons P item (from_first test change items) (All-head P item items are) (from_first-are P change becomes items (All-tail P item items are))))
      (cases_Bool (test item.tree))

  pub without_first-are : (front : Text) (items : List Item) → AreTrees items → AreTrees (without_first test front items).items
  without_first-are front [] are = All-nil (λ item. IsTree name_limit item.tree)
  without_first-are front (item ∷ items) are =
      let rest = without_first test item.trail items in
      let gone : Reading = record { front = front ++ item.trail; items = items } in
      let kept : Reading = record { front = front; items = record item { trail = rest.front } ∷ rest.items } in
      ⊎_elim
      (λ e. subst (λ (db : Reading). AreTrees db.items) (sym (cond-true (test item.tree) gone kept e)) (All-tail (λ item. IsTree name_limit item.tree) item items are))
      (λ e. subst (λ (db : Reading). AreTrees db.items) (sym (cond-false (test item.tree) gone kept e))
      (All-cons (λ item. IsTree name_limit item.tree) (record item { trail = rest.front }) rest.items (All-head (λ item. IsTree name_limit item.tree) item items are)
      (without_first-are item.trail items (All-tail (λ item. IsTree name_limit item.tree) item items are))))
      (cases_Bool (test item.tree))

-- ---- the entry that a key names

-- a key found is never empty
pub named_not_empty : (key found : Text) → is_named key found ≡ true → is_empty found ≡ false
named_not_empty key found h = not-true (is_empty found) (and_parts _ (same found key) h).0

module _ (key : Text) (change : Entry → Entry) where
  pub comment-of_entry : (tree : Tree) → is_comment (of_entry change tree) ≡ is_comment tree
  comment-of_entry (CommentTree h) = refl
  comment-of_entry (DefinitionTree d) = refl
  comment-of_entry (PreambleTree p) = refl
  comment-of_entry (EntryTree e) = refl

  pub of_entry-is : ((e : Entry) → is_named key e.key ≡ true → IsEntry name_limit e → IsEntry name_limit (change e)) →
      (tree : Tree) → is_entry key tree ≡ true → IsTree name_limit tree → IsTree name_limit (of_entry change tree)
  of_entry-is becomes (EntryTree e) named is = becomes e named is
  of_entry-is becomes (CommentTree h) named is = absurd (false≢true named)
  of_entry-is becomes (DefinitionTree d) named is = absurd (false≢true named)
  of_entry-is becomes (PreambleTree p) named is = absurd (false≢true named)
