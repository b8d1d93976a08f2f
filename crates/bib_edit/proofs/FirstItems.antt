-- The first item that passes a test, with the items before and after it.
use Rattle.bib_edit.proofs.Words.{◌≡◌, ℕ, suc, ◌+◌, Bool, true, false, List, [], ◌∷◌, ◌++◌, Some, option_map, slice_get, length, take, find, ⊎_elim, refl, sym, ◌∙◌, ap, ap₂, flat_map, AllByRecursion, cases_Bool, cond-true, cond-false, none-some, same_Some, Tree, Item, Reading, item_bytes, Chunk, take_at}
use Rattle.bib_edit.proofs.Words.{from_first, with_first_tree, kept_item, kept_items, chunks_from_first, suc_some, start_of, first_item}

module _ (test : Tree → Bool) where
  -- item n is the first that passes the test
  pub record IsFirstItem (items : List Item) (n : ℕ) : Type 0 where
    pub before : List Item
    pub item : Item
    pub after : List Item
    pub is : items ≡ before ++ item ∷ after
    pub passes : test item.tree ≡ true
    pub none : AllByRecursion (λ i. test i.tree ≡ false) before
    pub number : length before ≡ n

  pub found_first : (items : List Item) (n : ℕ) → first_item test items ≡ Some n → IsFirstItem items n
  found_first [] n e = absurd (none-some n e)
  found_first (item ∷ items) n e = ⊎_elim
      (λ t. record {
        before = [];
        item = item;
        after = items;
        is = refl;
        passes = t;
        none = tt;
        number = same_Some 0 n (sym (cond-true (test item.tree) (Some 0) (option_map suc (first_item test items)) t) ∙ e);
      })
      (λ t. let found = suc_some (first_item test items) n (sym (cond-false (test item.tree) (Some 0) (option_map suc (first_item test items)) t) ∙ e) in
      let rest = found_first items found.0 found.1 in
      record {
        before = item ∷ rest.before;
        item = rest.item;
        after = rest.after;
        is = ap (λ l. item ∷ l) rest.is;
        passes = rest.passes;
        none = (t, rest.none);
        number = ap suc rest.number ∙ found.2;
      })
      (cases_Bool (test item.tree))

  module _ (change : Item → List Item → List Chunk) where
    chunks_after : (before : List Item) (item : Item) (after : List Item) → test item.tree ≡ true → AllByRecursion (λ i. test i.tree ≡ false) before →
        chunks_from_first test change (before ++ item ∷ after) ≡ kept_items before ++ change item after
    chunks_after [] item after t none = cond-true (test item.tree) (change item after) (kept_item item ∷ chunks_from_first test change after) t
    chunks_after (x ∷ before) item after t none =
        cond-false (test x.tree) (change x (before ++ item ∷ after)) (kept_item x ∷ chunks_from_first test change (before ++ item ∷ after)) none.0
        ∙ ap (λ l. kept_item x ∷ l) (chunks_after before item after t none.1)

    -- the items before it are kept, and it and those after it are as said
    pub chunks-first : (items : List Item) (n : ℕ) (first : IsFirstItem items n) → chunks_from_first test change items ≡ kept_items first.before ++ change first.item first.after
    chunks-first items n first = ap (chunks_from_first test change) first.is ∙ chunks_after first.before first.item first.after first.passes first.none

  module _ (change : List Item → List Item) where
    items_after : (before : List Item) (item : Item) (after : List Item) → test item.tree ≡ true → AllByRecursion (λ i. test i.tree ≡ false) before →
        from_first test change (before ++ item ∷ after) ≡ before ++ change (item ∷ after)
    items_after [] item after t none = cond-true (test item.tree) (change (item ∷ after)) (item ∷ from_first test change after) t
    items_after (x ∷ before) item after t none =
        cond-false (test x.tree) (change (x ∷ (before ++ item ∷ after))) (x ∷ from_first test change (before ++ item ∷ after)) none.0
        ∙ ap (λ l. x ∷ l) (items_after before item after t none.1)

    pub items-first : (items : List Item) (n : ℕ) (first : IsFirstItem items n) → from_first test change items ≡ first.before ++ change (first.item ∷ first.after)
    items-first items n first = ap (from_first test change) first.is ∙ items_after first.before first.item first.after first.passes first.none

pub stands-after : {X : Type 0} (before : List X) (x : X) (xs : List X) → slice_get (before ++ x ∷ xs) (length before) ≡ Some x
stands-after [] x xs = refl
stands-after (y ∷ before) x xs = stands-after before x xs

module _ (test : Tree → Bool) (items : List Item) (n : ℕ) (first : IsFirstItem test items n) where
  pub item-first : slice_get items n ≡ Some first.item
  item-first = ap₂ slice_get first.is (sym first.number) ∙ stands-after first.before first.item first.after

  pub before-first : take n items ≡ first.before
  before-first = ap₂ take (sym first.number) first.is ∙ take_at first.before (first.item ∷ first.after) (length first.before) refl

-- an item stands after the front and those before it
pub start-first : (test : Tree → Bool) (db : Reading) (n : ℕ) (first : IsFirstItem test db.items n) → start_of db n ≡ length db.front + length (flat_map item_bytes first.before)
start-first test db n first = ap (λ l. length db.front + length (flat_map item_bytes l)) (before-first test db.items n first)

find_after : (test : Tree → Bool) (before : List Item) (item : Item) (after : List Item) → test item.tree ≡ true → AllByRecursion (λ i. test i.tree ≡ false) before →
    find (λ i. test i.tree) (before ++ item ∷ after) ≡ Some item
find_after test [] item after t none = cond-true (test item.tree) (Some item) (find (λ i. test i.tree) after) t
find_after test (x ∷ before) item after t none = cond-false (test x.tree) (Some x) (find (λ i. test i.tree) (before ++ item ∷ after)) none.0 ∙ find_after test before item after t none.1

-- where the first item stays one that passes the test, it is found again
pub found-again : (test : Tree → Bool) (change : Tree → Tree) (items : List Item) (n : ℕ) (item : Item) → first_item test items ≡ Some n → slice_get items n ≡ Some item → test (change item.tree) ≡ true →
    find (λ i. test i.tree) (from_first test (with_first_tree change) items) ≡ Some (record item { tree = change item.tree })
found-again test change items n item e at still =
    let first : IsFirstItem test items n = found_first test items n e in
    let it : item ≡ first.item = same_Some item first.item (sym at ∙ item-first test items n first) in
    ap (find (λ i. test i.tree)) (items-first test (with_first_tree change) items n first
    ∙ sym (ap (λ (i : Item). let new : Item = record i { tree = change i.tree } in first.before ++ new ∷ first.after) it))
    ∙ find_after test first.before (record item { tree = change item.tree }) first.after still first.none
