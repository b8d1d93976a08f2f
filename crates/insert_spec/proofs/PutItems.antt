-- The items and the bytes of a database with a text put in.
use Rattle.std.proofs.Common.{◌≡◌, ◌<◌, ℕ, zero, suc, List, [], ◌∷◌, ◌++◌, take, drop, length, slice_get, option_map, refl, sym, ◌∙◌, ap, ap₂, append_assoc, append-nil, not-suc-le-zero, le_of_suc-le-suc}
use Rattle.std.specs.List.{flat_map}
use Rattle.std.proofs.lemmas.List.Concat.{flat_map-append}
use Rattle.std.proofs.lemmas.List.Elements.{All-append, All-cons, All-head, All-tail}
use Rattle.bib_spec.specs.Text.{Text}
use Rattle.bib_spec.specs.Tree.{tree_bytes}
use Rattle.bib_spec.specs.Reading.{Item, Reading, item_bytes, bytes_of}
use Rattle.bib_spec.specs.Bytes.{name_limit}
use Rattle.bib_spec.specs.Tree.{IsTree}
use Rattle.edit_spec.proofs.EditedItems.{AreTrees}
use Rattle.insert_spec.specs.Insertion.{put_in, line_end_before}
use Rattle.insert_spec.specs.Laws.{trees, with_more, insertion_keeps_trees, first_insertion_keeps, later_insertion_keeps}

abbrev pub items_bytes : List Item → Text
items_bytes items = flat_map item_bytes items

pub items-append : (xs ys : List Item) → items_bytes (xs ++ ys) ≡ items_bytes xs ++ items_bytes ys
items-append xs ys = flat_map-append item_bytes xs ys

module _ (joint : Text) (new : Reading) where
  -- ---- trees

  put-trees : (position : ℕ) (front : Text) (items : List Item) →
      trees (put_in position joint new front items).items ≡ take position (trees items) ++ (trees new.items ++ drop position (trees items))
  put-trees zero front [] = sym (append-nil (trees new.items))
  put-trees (suc position) front [] = sym (append-nil (trees new.items))
  put-trees zero front (item ∷ items) = trees-append new.items (item ∷ items)
    where
      trees-append : (xs ys : List Item) → trees (xs ++ ys) ≡ trees xs ++ trees ys
      trees-append [] ys = refl
      trees-append (x ∷ xs) ys = ap (λ l. x.tree ∷ l) (trees-append xs ys)
  put-trees (suc position) front (item ∷ items) = ap (λ l. item.tree ∷ l) (put-trees position item.trail items)

  pub put-are : (position : ℕ) (front : Text) (items : List Item) → AreTrees new.items → AreTrees items → AreTrees (put_in position joint new front items).items
  put-are zero front [] news are = news
  put-are (suc position) front [] news are = news
  put-are zero front (item ∷ items) news are = All-append (λ item. IsTree name_limit item.tree) new.items (item ∷ items) news are
  put-are (suc position) front (item ∷ items) news are =
      let rest = put_in position joint new item.trail items in
      All-cons (λ item. IsTree name_limit item.tree) (record item { trail = rest.front }) rest.items
      (All-head (λ item. IsTree name_limit item.tree) item items are)
      (put-are position item.trail items news (All-tail (λ item. IsTree name_limit item.tree) item items are))

  -- ---- bytes

  front_then : (f j n r : Text) → (f ++ (j ++ n)) ++ r ≡ f ++ ((j ++ (n ++ r)) ++ [])
  front_then f j n r = simp (append_assoc, append-nil)

  front_before : (f j n a b : Text) → (f ++ (j ++ n)) ++ (a ++ b) ≡ f ++ ((j ++ (n ++ a)) ++ b)
  front_before f j n a b = simp append_assoc

  item_then : (f b t r : Text) → f ++ (b ++ (t ++ r)) ≡ f ++ ((b ++ t) ++ r)
  item_then f b t r = simp append_assoc

  item_before : (f b t r : Text) → f ++ ((b ++ t) ++ r) ≡ f ++ (b ++ (t ++ r))
  item_before f b t r = simp append_assoc

  pub put-bytes : (position : ℕ) (front : Text) (items : List Item) →
      bytes_of (put_in position joint new front items) ≡ front ++ (items_bytes (take position items) ++ ((joint ++ bytes_of new) ++ items_bytes (drop position items)))
  put-bytes zero front [] = front_then front joint new.front (items_bytes new.items)
  put-bytes (suc position) front [] = front_then front joint new.front (items_bytes new.items)
  put-bytes zero front (item ∷ items) =
      ap (λ t. (front ++ (joint ++ new.front)) ++ t) (items-append new.items (item ∷ items))
      ∙ front_before front joint new.front (items_bytes new.items) (items_bytes (item ∷ items))
  put-bytes (suc position) front (item ∷ items) =
      let rest = put_in position joint new item.trail items in
      let later = items_bytes (take position items) ++ ((joint ++ bytes_of new) ++ items_bytes (drop position items)) in
      item_before front (tree_bytes item.tree) rest.front (items_bytes rest.items)
      ∙ ap (λ t. front ++ (tree_bytes item.tree ++ t)) (put-bytes position item.trail items)
      ∙ item_then front (tree_bytes item.tree) item.trail later
      ∙ ap (λ t. front ++ t) (sym (append_assoc (item_bytes item) (items_bytes (take position items)) ((joint ++ bytes_of new) ++ items_bytes (drop position items))))

  -- ---- what stays

  put_front : (front : Text) (items : List Item) → (put_in 0 joint new front items).front ≡ front ++ (joint ++ new.front)
  put_front front [] = refl
  put_front front (item ∷ items) = refl

  put_first : (front : Text) (items : List Item) → (put_in 0 joint new front items).items ≡ new.items ++ items
  put_first front [] = sym (append-nil new.items)
  put_first front (item ∷ items) = refl

  later_front : (n : ℕ) (front : Text) (items : List Item) → n < length items → (put_in (suc n) joint new front items).front ≡ front
  later_front n front [] lt = absurd (not-suc-le-zero lt)
  later_front n front (item ∷ items) lt = refl

  later_earlier : (n : ℕ) (front : Text) (items : List Item) → n < length items → take n (put_in (suc n) joint new front items).items ≡ take n items
  later_earlier n front [] lt = absurd (not-suc-le-zero lt)
  later_earlier zero front (item ∷ items) lt = refl
  later_earlier (suc n) front (item ∷ items) lt =
      ap₂ (λ t l. let it : Item = record { tree = item.tree; trail = t } in it ∷ l)
      (later_front n item.trail items (le_of_suc-le-suc lt)) (later_earlier n item.trail items (le_of_suc-le-suc lt))

  later_before : (n : ℕ) (front : Text) (items : List Item) → n < length items →
      slice_get (put_in (suc n) joint new front items).items n ≡ option_map (with_more (joint ++ new.front)) (slice_get items n)
  later_before n front [] lt = absurd (not-suc-le-zero lt)
  later_before zero front (item ∷ items) lt = ap (λ t. let it : Item = record { tree = item.tree; trail = t } in slice_get (it ∷ []) 0) (put_front item.trail items)
  later_before (suc n) front (item ∷ items) lt = later_before n item.trail items (le_of_suc-le-suc lt)

  later_later : (n : ℕ) (front : Text) (items : List Item) → n < length items → drop (suc n) (put_in (suc n) joint new front items).items ≡ new.items ++ drop (suc n) items
  later_later n front [] lt = absurd (not-suc-le-zero lt)
  later_later zero front (item ∷ items) lt = put_first item.trail items
  later_later (suc n) front (item ∷ items) lt = later_later n item.trail items (le_of_suc-le-suc lt)

pub insertion-keeps-trees : insertion_keeps_trees
insertion-keeps-trees position new db = put-trees (line_end_before position new db) new position db.front db.items

pub first-insertion-keeps : first_insertion_keeps
first-insertion-keeps = record {
  front = λ new db. put_front (line_end_before 0 new db) new db.front db.items;
  items = λ new db. put_first (line_end_before 0 new db) new db.front db.items;
}

pub later-insertion-keeps : later_insertion_keeps
later-insertion-keeps = record {
  front = λ n new db lt. later_front (line_end_before (suc n) new db) new n db.front db.items lt;
  earlier = λ n new db lt. later_earlier (line_end_before (suc n) new db) new n db.front db.items lt;
  before = λ n new db lt. later_before (line_end_before (suc n) new db) new n db.front db.items lt;
  later = λ n new db lt. later_later (line_end_before (suc n) new db) new n db.front db.items lt;
}
