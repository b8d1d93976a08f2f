-- Entries as they stand in the file, one after another.
use Rattle.bib_answers.proofs.Words.{◌≡◌, ◌∙◌, ℕ, true, false, ◌+◌, ◌<◌, ◌≤◌, List, [], ◌∷◌, ◌++◌, length, take, get_or, map, slice_get, Option, Some, sym, ap, option_map_or, take_all, take_more, length-map, filter_map-append, get_or_from_slice_get, same_Some, slice_get-map, cons_option, Text, Item, Reading, EntryTexts, View, view_of, entries_of, entry_named, entry_items, Position}
use Rattle.std.proofs.Common.{arith, filter_map, option_map}
use Rattle.std.proofs.lemmas.List.{map-append}
use Rattle.bib_spec.specs.Tree.{tree_bytes}
use Rattle.bib_store.specs.Readings.{entry_numbers}
use Rattle.bib_store.proofs.EntryItems.{entry_at, entry_stands, length-entry_numbers, number_of_entry}
use Rattle.bib_answers.specs.Entry.{place_of, place_line, ended, item_text, standing, entry_text}

-- ---- which entries

-- one more key
pub found_next : (entries : List EntryTexts) (keys : List Text) (i : ℕ) (key : Text) → i < length keys → key ≡ get_or keys i key
    → filter_map (entry_named entries) (take i keys) ++ cons_option (entry_named entries key) [] ≡ filter_map (entry_named entries) (take (i + 1) keys)
found_next entries keys i key within is = sym (
    ap (filter_map (entry_named entries)) (take_more keys i key within)
    ∙ filter_map-append (entry_named entries) (take i keys) (get_or keys i key ∷ [])
    ∙ ap (λ (k : Text). filter_map (entry_named entries) (take i keys) ++ cons_option (entry_named entries k) []) (sym is))

-- ---- how each stands in the file

abbrev IsSeen : Reading → ℕ → View → Type 0
IsSeen r n view = (item : Item) → slice_get (entry_items r.items) n ≡ Some item → view ≡ view_of item

-- the item that an entry is has the bytes of its view
text_of_item : (r : Reading) (n m : ℕ) (view : View) → n < length (entries_of r) → slice_get (entry_numbers r.items) n ≡ Some m → IsSeen r n view → ended view.body ≡ item_text r m
text_of_item r n m view within numbered seen =
    let e = entry_at r n within in
    ap (λ (v : View). ended v.body) (seen e.0 e.1.listed)
    ∙ sym (ap (λ (o : Option Item). option_map_or (λ (item : Item). ended (tree_bytes item.tree)) o []) (entry_stands r n m e.0 numbered e.1.listed))

pub plain_text : (r : Reading) (n : ℕ) (view : View) → n < length (entries_of r) → IsSeen r n view → ended view.body ≡ entry_text false r n
plain_text r n view within seen =
    let e = entry_at r n within in
    text_of_item r n e.1.number view within e.1.numbered seen ∙ sym (ap (λ (o : Option ℕ). option_map_or (standing false r) o []) e.1.numbered)

pub placed_text : (r : Reading) (n m : ℕ) (view : View) (at : Position) → n < length (entries_of r) → slice_get (entry_numbers r.items) n ≡ Some m → IsSeen r n view
    → at ≡ place_of r m → place_line m at ++ ended view.body ≡ entry_text true r n
placed_text r n m view at within numbered seen is =
    ap (λ (p : Position). place_line m p ++ ended view.body) is
    ∙ ap (λ (t : Text). place_line m (place_of r m) ++ t) (text_of_item r n m view within numbered seen)
    ∙ sym (ap (λ (o : Option ℕ). option_map_or (standing true r) o []) numbered)

-- ---- where each begins

-- the place of an entry among those of all
pub place_among : (r : Reading) (n m : ℕ) (places : List Position) (at : Position) → places ≡ map (place_of r) (entry_numbers r.items)
    → slice_get (entry_numbers r.items) n ≡ Some m → slice_get places n ≡ Some at → at ≡ place_of r m
place_among r n m places at are numbered is =
    same_Some at (place_of r m)
    (sym is ∙ ap (λ (ps : List Position). slice_get ps n) are ∙ slice_get-map (place_of r) (entry_numbers r.items) n ∙ ap (option_map (place_of r)) numbered)

pub place_within : (r : Reading) (n : ℕ) (places : List Position) → places ≡ map (place_of r) (entry_numbers r.items) → n < length (entries_of r) → n < length places
place_within r n places are within =
    let count : length places ≡ length (entries_of r) = ap (length {A = Position}) are ∙ length-map (entry_numbers r.items) (place_of r) ∙ length-entry_numbers r in
    omega (arith, within, count)

-- one more place
pub places_more : (r : Reading) (n m : ℕ) (at : Position) → n < length (entries_of r) → slice_get (entry_numbers r.items) n ≡ Some m → at ≡ place_of r m
    → map (place_of r) (take n (entry_numbers r.items)) ++ at ∷ [] ≡ map (place_of r) (take (n + 1) (entry_numbers r.items))
places_more r n m at within numbered is = sym (
    ap (map (place_of r)) (take_more (entry_numbers r.items) n 0 (number_of_entry r n within))
    ∙ map-append (place_of r) (take n (entry_numbers r.items)) (get_or (entry_numbers r.items) n 0 ∷ [])
    ∙ ap (λ (k : ℕ). map (place_of r) (take n (entry_numbers r.items)) ++ place_of r k ∷ []) (get_or_from_slice_get (entry_numbers r.items) n m 0 numbered)
    ∙ ap (λ (p : Position). map (place_of r) (take n (entry_numbers r.items)) ++ p ∷ []) (sym is))

pub places_all : (r : Reading) (n : ℕ) → length (entries_of r) ≤ n → map (place_of r) (take n (entry_numbers r.items)) ≡ map (place_of r) (entry_numbers r.items)
places_all r n end = ap (map (place_of r)) (take_all n (entry_numbers r.items) (omega (arith, end, length-entry_numbers r)))
