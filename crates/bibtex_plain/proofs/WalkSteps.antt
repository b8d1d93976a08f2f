-- Steps of the walk over the items of a file.
use Rattle.std.proofs.Common.{◌≡◌, ◌∙◌, ℕ, ◌+◌, ◌<◌, ◌≤◌, Bool, true, false, eqb, List, [], ◌++◌, take, drop, length, Option, Some, None, Ok, Err, slice_get, refl, sym, ap, ap₂, subst, arith, length-append}
use Rattle.std.specs.List.{flat_map}
use Rattle.std.proofs.lemmas.List.{drop_all}
use Rattle.bib_spec.specs.Text.{Text}
use Rattle.bib_spec.specs.Texts.{is_empty}
use Rattle.bib_spec.specs.Tree.{tree_bytes}
use Rattle.bib_spec.specs.Reading.{Item, Reading, item_bytes, bytes_of}
use Rattle.bib_scan.specs.Layout.{start_of}
use Rattle.bib_scan.specs.View.{View, view_of}
use Rattle.bib_scan.proofs.ReadingLaws.{start_more}
use Rattle.bibtex_spec.specs.Plain.{at_signs_in, at_signs_from, item_signs, key_in, is_in_last_line, first_breach, not_plain}
use Rattle.bibtex_plain.specs.Walking.{IsLastFrom, BeginsAt, IsLineOf, GoesOn, keys_in}
use Rattle.bibtex_plain.specs.Walks.{signs_from, IsCountOf, IsWalk}
use Rattle.bibtex_plain.specs.declared.plain.Walk.{Walk}
use Rattle.bibtex_plain.proofs.SignSteps.{last_past}
use Rattle.bibtex_plain.proofs.LastLines.{begins_later}
use Rattle.bibtex_plain.proofs.EarlierKeys.{keys_more}
use Rattle.bibtex_plain.proofs.ItemPlaces.{item_within, items_from, before_item, split_at_item, length-before_item, over_items, over_all}

-- ---- the last line

-- what an item tells
abbrev Told : Reading → ℕ → ℕ → View → Option ℕ → Type 0
Told r n count view found = (i : Item) (more : Text) → view ≡ view_of i → eqb (n + 1) count ≡ is_empty more → is_in_last_line more ≡ true → IsLineOf (item_bytes i ++ more) found

line_of_item : (r : Reading) (n count : ℕ) (view : View) (found : Option ℕ) (i : Item) → n < length r.items → count ≡ length r.items → slice_get r.items n ≡ Some i → view ≡ view_of i → Told r n count view found
    → is_in_last_line (flat_map item_bytes (drop (n + 1) r.items)) ≡ true → IsLineOf (item_bytes i ++ flat_map item_bytes (drop (n + 1) r.items)) found
line_of_item r n count view found i number counted at seen told is =
    told i (flat_map item_bytes (drop (n + 1) r.items)) seen (over_items r.items (n + 1) count counted (omega (arith, number))) is

pub no_line : (r : Reading) (n count : ℕ) (view : View) → n < length r.items → count ≡ length r.items → ((i : Item) → slice_get r.items n ≡ Some i → view ≡ view_of i) → Told r n count view None
    → is_in_last_line (flat_map item_bytes (drop (n + 1) r.items)) ≡ true → is_in_last_line (flat_map item_bytes (drop n r.items)) ≡ true
no_line r n count view number counted viewed told is =
    let one = item_within r.items n number in
    ap (λ (l : List Item). is_in_last_line (flat_map item_bytes l)) (items_from r.items n one.0 one.1)
    ∙ line_of_item r n count view None one.0 number counted one.1 (viewed one.0 one.1) told is

pub a_line : (r : Reading) (n count place k : ℕ) (view : View) → n < length r.items → count ≡ length r.items → place ≡ start_of r n → ((i : Item) → slice_get r.items n ≡ Some i → view ≡ view_of i) → Told r n count view (Some k)
    → is_in_last_line (flat_map item_bytes (drop (n + 1) r.items)) ≡ true → BeginsAt (bytes_of r) (place + k)
a_line r n count place k view number counted begins viewed told is =
    let one = item_within r.items n number in
    let line = line_of_item r n count view (Some k) one.0 number counted one.1 (viewed one.0 one.1) told is in
    let len = length-before_item r n in
    subst (λ (t : Text). BeginsAt t (place + k)) (sym (split_at_item r n one.0 one.1))
    (subst (λ (m : ℕ). BeginsAt (before_item r n ++ (item_bytes one.0 ++ flat_map item_bytes (drop (n + 1) r.items))) m) (let it : length (before_item r n) + k ≡ place + k = omega (arith, len, begins) in it)
    (begins_later (before_item r n) (item_bytes one.0 ++ flat_map item_bytes (drop (n + 1) r.items)) k line))

-- the line feed that ends no line of the items is that of the front
pub front_line : (r : Reading) (front : Text) (count k : ℕ) (found : Option ℕ) → front ≡ r.front → count ≡ length r.items → 0 ≡ k → is_in_last_line (flat_map item_bytes (drop k r.items)) ≡ true
    → ((more : Text) → eqb count 0 ≡ is_empty more → is_in_last_line more ≡ true → IsLineOf (front ++ more) found) → IsLineOf (bytes_of r) found
front_line r front count k found is_front counted first is told =
    let more : Text = flat_map item_bytes r.items in
    subst (λ (t : Text). IsLineOf (t ++ more) found) is_front
    (told more (over_all r.items count counted) (ap (λ (m : ℕ). is_in_last_line (flat_map item_bytes (drop m r.items))) first ∙ is))

-- ---- the walk

-- the at-signs from item n on are those of the item, and later ones
pub walk_here : (r : Reading) (n : ℕ) (i : Item) (walk : Walk) → slice_get r.items n ≡ Some i → IsWalk r n walk
    → not_plain r ≡ first_breach walk.is_over (item_signs (keys_in (take n r.items)) walk.place i (flat_map item_bytes (drop (n + 1) r.items)) ++ signs_from r (n + 1))
walk_here r n i walk at is =
    let keys = keys_in (take n r.items) in
    let more : Text = flat_map item_bytes (drop (n + 1) r.items) in
    is.rest
    ∙ ap (λ (l : List Item). first_breach walk.is_over (at_signs_from keys (start_of r n) l)) (items_from r.items n i at)
    ∙ ap (λ (p : ℕ). first_breach walk.is_over (item_signs keys p i more ++ at_signs_from (keys ++ key_in i.tree) (start_of r n + length (item_bytes i)) (drop (n + 1) r.items))) (sym is.place)
    ∙ ap₂ (λ (ks : List Text) (p : ℕ). first_breach walk.is_over (item_signs keys walk.place i more ++ at_signs_from ks p (drop (n + 1) r.items))) (sym (keys_more r.items n i at)) (sym (start_more r n i (drop (n + 1) r.items) (items_from r.items n i at)))

-- the last line, as an item sees it
pub last_of_item : (r : Reading) (n last place : ℕ) (i : Item) → slice_get r.items n ≡ Some i → place ≡ start_of r n → IsLastFrom last 0 (bytes_of r)
    → IsLastFrom last place (item_bytes i ++ flat_map item_bytes (drop (n + 1) r.items))
last_of_item r n last place i at begins lasts =
    let rest : Text = item_bytes i ++ flat_map item_bytes (drop (n + 1) r.items) in
    let len = length-before_item r n in
    subst (λ (p : ℕ). IsLastFrom last p rest) (let it : 0 + length (before_item r n) ≡ place = omega (arith, len, begins) in it)
    (last_past last 0 (before_item r n) rest (subst (λ (t : Text). IsLastFrom last 0 t) (split_at_item r n i at) lasts))

-- the walk at the next item
pub walk_next : (r : Reading) (n : ℕ) (i : Item) (walk next : Walk) (body trail : Text) → slice_get r.items n ≡ Some i → IsWalk r n walk → body ≡ tree_bytes i.tree → trail ≡ i.trail
    → next.place ≡ (walk.place + length body) + length trail → IsCountOf (keys_in (take n r.items) ++ key_in i.tree) next.count
    → GoesOn walk.is_over (item_signs (keys_in (take n r.items)) walk.place i (flat_map item_bytes (drop (n + 1) r.items))) (Ok next.is_over) → IsWalk r (n + 1) next
walk_next r n i walk next body trail at is is_body is_trail places counted goes = record {
  place =
      let more = start_more r n i (drop (n + 1) r.items) (items_from r.items n i at) in
      let both = length-append (tree_bytes i.tree) i.trail in
      let begins = is.place in
      let one = ap (length {A = ℕ}) is_body in
      let two = ap (length {A = ℕ}) is_trail in
      omega (arith, more, both, begins, places, one, two);
  count = subst (λ (ks : List Text). IsCountOf ks next.count) (sym (keys_more r.items n i at)) counted;
  rest = walk_here r n i walk at is ∙ goes (signs_from r (n + 1));
}

-- the walk at the first item
pub walk_first : (r : Reading) (front : Text) (over : Bool) → front ≡ r.front → GoesOn false (at_signs_in false 0 front (flat_map item_bytes r.items)) (Ok over)
    → IsWalk r 0 (record { place = length front; count = record { entries = 0; has_empty = false }; is_over = over })
walk_first r front over is goes = record {
  place = let one = ap (length {A = ℕ}) is in omega (arith, one);
  count = record { entries = refl; empty = refl };
  rest =
      ap (λ (t : Text). first_breach false (at_signs_in false 0 t (flat_map item_bytes r.items) ++ at_signs_from [] (length r.front) r.items)) (sym is)
      ∙ goes (at_signs_from [] (length r.front) r.items)
      ∙ ap (λ (p : ℕ). first_breach over (at_signs_from [] p r.items)) (let it : length r.front ≡ start_of r 0 = omega arith in it);
}

pub front_stops : (r : Reading) (front : Text) (place : ℕ) → front ≡ r.front → GoesOn false (at_signs_in false 0 front (flat_map item_bytes r.items)) (Err place) → not_plain r ≡ Some place
front_stops r front place is goes =
    ap (λ (t : Text). first_breach false (at_signs_in false 0 t (flat_map item_bytes r.items) ++ at_signs_from [] (length r.front) r.items)) (sym is)
    ∙ goes (at_signs_from [] (length r.front) r.items)

-- after the last item there is no at-sign
pub walk_ends : (r : Reading) (n : ℕ) (walk : Walk) → length r.items ≤ n → IsWalk r n walk → not_plain r ≡ None
walk_ends r n walk all is = is.rest ∙ ap (λ (l : List Item). first_breach walk.is_over (at_signs_from (keys_in (take n r.items)) (start_of r n) l)) (drop_all n r.items all)
