-- The walk over the items of a file.
use Rattle.bib_store.proofs.Words.{◌≡◌, ℕ, zero, suc, ◌+◌, ◌-◌, ◌<◌, ◌≤◌, ◌^◌, cond, nat_lt, List, [], ◌∷◌, ◌++◌, length, take, drop, map, Option, Some, None, option_map, get_or, ◌⊎◌, inl, inr, ⊎_elim, refl, sym, ◌∙◌, ap, subst, arith, length-append, le_of_suc-le-suc, not-suc-le-zero, flat_map}
use Rattle.bib_store.proofs.Words.{option_or, cases_Bool, cond-true, cond-false, none-some, same_Some, slice_get_within, get_or_from_slice_get, slice_get-map, take_more, length-map, name_limit, file_limit, Text, tree_bytes, IsTree, Reading, Reads, bytes_of, item_bytes, Macros, months, macros_at}
use Rattle.bib_store.proofs.Words.{macros_after, value_places, raw_texts_in, raw_texts_from, too_long_at, start_of, IsItemOf, AreAllOf, ItemFault, TooLong, Tables, item, item_at, stored, without_range, texts_at, first_too_long, placed_texts, AreTablesOf, AreTables, SayTheSame, HasItems, IsStep}
use Rattle.bib_store.proofs.Words.{IsTooLongAt}
use Rattle.std.proofs.Common.{slice_get, append-nil, length-drop, length-take-le}
use Rattle.std.specs.List.{zip}
use Rattle.std.proofs.lemmas.Bool.{ltb-true, ltb-false}
use Rattle.std.proofs.lemmas.Option.{slice_get_cases}
use Rattle.std.proofs.lemmas.List.{take_all}
use Rattle.std.proofs.lemmas.Grind.{flat_map-append}
use Rattle.std.proofs.lemmas.List.Folds.{length-flat_map-take}
use Rattle.bib_spec.specs.Reading as reading
use Rattle.bib_items.specs.declared.list.Item.{Item}
use Rattle.bib_store.specs.declared.item_fault.ItemFault.TheVariants.{Memory, Unsettled}
use Rattle.bib_store.specs.ItemTexts.{OfTree}
use Rattle.bib_store.proofs.OneItemMore.{first-append, first-shift, raw_texts-append, too_long_within}

-- ---- lists

-- an element, and the list before and after it
parted : {X : Type 0} (xs : List X) (n : ℕ) (x : X) → slice_get xs n ≡ Some x → (rest : List X) × (xs ≡ take n xs ++ x ∷ rest)
parted [] n x e = absurd (none-some x e)
parted {X} (y ∷ ys) zero x e = (ys, ap (λ (z : X). z ∷ ys) (same_Some y x e))
parted {X} (y ∷ ys) (suc n) x e = let later = parted ys n x e in (later.0, ap (λ (zs : List X). y ∷ zs) later.1)

low_kept : {X : Type 0} (from : ℕ) (xs ys : List X) (n : ℕ) → n < from → from ≤ length xs → slice_get (take from xs ++ ys) n ≡ slice_get xs n
low_kept zero xs ys n low within = absurd (not-suc-le-zero low)
low_kept (suc from) [] ys n low within = absurd (not-suc-le-zero within)
low_kept (suc from) (x ∷ xs) ys zero low within = refl
low_kept (suc from) (x ∷ xs) ys (suc n) low within = low_kept from xs ys n (le_of_suc-le-suc low) (le_of_suc-le-suc within)

after_first : {X : Type 0} (xs ys : List X) (j : ℕ) → slice_get (xs ++ ys) (length xs + j) ≡ slice_get ys j
after_first [] ys j =
    let e : 0 + j ≡ j = omega arith in
    ap (slice_get ys) e
after_first (x ∷ xs) ys j =
    let e : length (x ∷ xs) + j ≡ suc (length xs + j) = omega arith in
    ap (slice_get (x ∷ (xs ++ ys))) e ∙ after_first xs ys j

dropped : {X : Type 0} (to : ℕ) (xs : List X) (j : ℕ) → slice_get (drop to xs) j ≡ slice_get xs (to + j)
dropped zero xs j =
    let e : j ≡ 0 + j = omega arith in
    ap (slice_get xs) e
dropped (suc to) [] j = refl
dropped (suc to) (x ∷ xs) j =
    let e : suc (to + j) ≡ suc to + j = omega arith in
    dropped to xs j ∙ ap (slice_get (x ∷ xs)) e

-- the place in the whole list of an item that is kept
kept_at : (from to : ℕ) (all : List Item) (n : ℕ) → from ≤ to → to ≤ length all → slice_get (without_range from to all) n ≡ slice_get all (cond (nat_lt n from) n (n + (to - from)))
kept_at from to all n order within = ⊎_elim
    (λ e. low_kept from all (drop to all) n (ltb-true n from e) (omega (arith, order, within)) ∙ ap (slice_get all) (sym (cond-true (nat_lt n from) n (n + (to - from)) e)))
    (λ e.
    let high : from ≤ n = ltb-false n from e in
    let len = length-take-le from all (omega (arith, order, within)) in
    let first : n ≡ length (take from all) + (n - from) = omega (arith, high, len) in
    let last : to + (n - from) ≡ n + (to - from) = omega (arith, high, order) in
    ap (slice_get (take from all ++ drop to all)) first
    ∙ after_first (take from all) (drop to all) (n - from)
    ∙ dropped to all (n - from)
    ∙ ap (slice_get all) (last ∙ sym (cond-false (nat_lt n from) n (n + (to - from)) e)))
    (cases_Bool (nat_lt n from))

count_kept : (from to : ℕ) (all : List Item) → from ≤ to → to ≤ length all → length (without_range from to all) ≡ length all - (to - from)
count_kept from to all order within =
    let len = length-take-le from all (omega (arith, order, within)) in
    omega (arith, order, within, len, length-append (take from all) (drop to all), length-drop to all)

-- it is one of the list
pub kept_inside : (from to len n k : ℕ) → from ≤ to → to ≤ len → k ≡ cond (nat_lt n from) n (n + (to - from)) → n < len - (to - from) → k < len
kept_inside from to len n k order within number low = ⊎_elim
    (λ e. let is = number ∙ cond-true (nat_lt n from) n (n + (to - from)) e in omega (arith, is, ltb-true n from e, order, within))
    (λ e. let is = number ∙ cond-false (nat_lt n from) n (n + (to - from)) e in omega (arith, is, low, order, within))
    (cases_Bool (nat_lt n from))

-- ---- one item of a file

-- item n of the file is the one that stands at number k of the list
pub record IsItemAt (db : Reading) (n : ℕ) (kept : Item) : Type 0 where
  pub it : reading.Item
  pub at : slice_get db.items n ≡ Some it
  pub tree : IsTree name_limit it.tree
  pub body : tree_bytes it.tree ≡ kept.body
  pub trail : it.trail ≡ kept.trail

item_is : (front_len from to : ℕ) (all : List Item) (db : Reading) (n k : ℕ) → from ≤ to → to ≤ length all → k ≡ cond (nat_lt n from) n (n + (to - from)) → n < length all - (to - from)
    → HasItems front_len (without_range from to all) db → IsItemAt db n (item_at all k)
item_is front_len from to all db n k order within number low kept =
    let count : length db.items ≡ length all - (to - from) = sym (length-map db.items stored) ∙ ap (λ (l : List Item). length l) kept.same ∙ count_kept from to all order within in
    ⊎_elim
    (λ found. of found.0 found.1 found.2 found.3)
    (λ past. absurd (omega (arith, past.0, low, count)))
    (slice_get_cases db.items n).1
  where
    of : (here : reading.Item) → n < length db.items → slice_get db.items n ≡ Some here → get_or db.items n here ≡ here → IsItemAt db n (item_at all k)
    of here inside at is =
        let whole : slice_get all k ≡ Some (stored here) =
        ap (slice_get all) number ∙ sym (kept_at from to all n order within) ∙ ap (λ (l : List Item). slice_get l n) (sym kept.same) ∙ slice_get-map stored db.items n ∙ ap (option_map stored) at in
        let same : item_at all k ≡ stored here = get_or_from_slice_get all k (stored here) (item [] []) whole in
        record {
          it = here;
          at = at;
          tree = subst (λ (i : reading.Item). IsTree name_limit i.tree) is (kept.items n here inside).tree;
          body = ap (λ (i : Item). i.body) (sym same);
          trail = ap (λ (i : Item). i.trail) (sym same);
        }

-- ---- the first text that is too long

-- after items none of whose texts is too long, it is that of the next item, or one after it
first_here : (at : ℕ) (before rest : List reading.Item) (it : reading.Item) (o : Option ℕ)
    → first_too_long (raw_texts_from at months before) ≡ None
    → first_too_long (placed_texts (macros_at months before (length before)) it.tree) ≡ o
    → first_too_long (raw_texts_from at months (before ++ it ∷ rest))
    ≡ option_or (option_map (λ place. at + length (flat_map item_bytes before) + place) o)
    (first_too_long (raw_texts_from (at + length (flat_map item_bytes before) + length (item_bytes it)) (macros_after (macros_at months before (length before)) it.tree) rest))
first_here at before rest it o none here =
    let start = at + length (flat_map item_bytes before) in
    let m = macros_at months before (length before) in
    let own = zip (map (λ place. start + place) (value_places it.tree)) (raw_texts_in m it.tree) in
    let later = raw_texts_from (start + length (item_bytes it)) (macros_after m it.tree) rest in
    ap first_too_long (raw_texts-append at months before (it ∷ rest))
    ∙ first-append (raw_texts_from at months before) (own ++ later)
    ∙ ap (λ (x : Option ℕ). option_or x (first_too_long (own ++ later))) none
    ∙ first-append own later
    ∙ ap (λ (x : Option ℕ). option_or x (first_too_long later)) (first-shift start (value_places it.tree) (raw_texts_in m it.tree) ∙ ap (option_map (λ place. start + place)) here)

-- ---- the walk

-- the first n items have these tables, the next begins at this place, and no text before it is too long
pub record IsWalked (db : Reading) (n place : ℕ) (t : Tables) : Type 0 where
  pub tables : AreTablesOf (take n db.items) t
  pub start : place ≡ length db.front + length (flat_map item_bytes (take n db.items))
  pub texts : first_too_long (raw_texts_from (length db.front) months (take n db.items)) ≡ None

-- the macros before the next item
next_macros : (db : Reading) (n : ℕ) (t : Tables) → n < length db.items → AreTablesOf (take n db.items) t
    → texts_at t.definitions n ≡ macros_at months (take n db.items) (length (take n db.items))
next_macros db n t inside are =
    let len : length (take n db.items) ≡ n = length-take-le n db.items (omega (arith, inside)) in
    are.definitions.texts n ∙ ap (macros_at months (take n db.items)) (sym len)

-- item n
module _ (db : Reading) (n place : ℕ) (it : reading.Item) (at : slice_get db.items n ≡ Some it) where
  -- where it ends
  pub room : length db.front + length (flat_map item_bytes (take n db.items)) + length (item_bytes it) ≤ length (bytes_of db)
  room =
      let inside = slice_get_within db.items n it at in
      let sum = length-flat_map-take item_bytes db.items n it inside in
      let here = ap (λ (i : reading.Item). length (item_bytes i)) (get_or_from_slice_get db.items n it it at) in
      omega (arith, sum, here, length-append db.front (flat_map item_bytes db.items))

  pub taken : take (n + 1) db.items ≡ take n db.items ++ it ∷ []
  taken =
      let inside = slice_get_within db.items n it at in
      take_more db.items n it inside ∙ ap (λ (x : reading.Item). take n db.items ++ x ∷ []) (get_or_from_slice_get db.items n it it at)

  -- it is put in
  pub walked_more : (next : ℕ) (old new : Tables) → next ≡ length db.front + length (flat_map item_bytes (take (n + 1) db.items)) → IsStep n it.tree old new → IsWalked db n place old → IsWalked db (n + 1) next new
  walked_more next old new next_is one w =
      let inside = slice_get_within db.items n it at in
      let len : length (take n db.items) ≡ n = length-take-le n db.items (omega (arith, inside)) in
      record {
        tables = subst (λ (items : List reading.Item). AreTablesOf items new) (sym taken) (one.tables (take n db.items) it.trail len w.tables);
        start = next_is;
        texts = ap (λ (items : List reading.Item). first_too_long (raw_texts_from (length db.front) months items)) taken
            ∙ first_here (length db.front) (take n db.items) [] it None w.texts (ap (λ (m : Macros). first_too_long (placed_texts m it.tree)) (sym (next_macros db n old inside w.tables)) ∙ one.texts);
      }

  -- a text in it is too long
  pub walked_over : (t : Tables) (here result : ℕ) → (place + here < 2 ^ 64 → result ≡ place + here) → IsTooLongAt n it.tree t here → length (bytes_of db) ≤ file_limit → IsWalked db n place t → too_long_at db ≡ Some result
  walked_over t here result reaches over short w =
      let inside = slice_get_within db.items n it at in
      let parts = parted db.items n it at in
      let m = macros_at months (take n db.items) (length (take n db.items)) in
      let first : first_too_long (placed_texts m it.tree) ≡ Some here =
      ap (λ (mm : Macros). first_too_long (placed_texts mm it.tree)) (sym (next_macros db n t inside w.tables)) ∙ over in
      let low_place = too_long_within m it.tree here first in
      let bytes = length-append (tree_bytes it.tree) it.trail in
      ap (λ (items : List reading.Item). first_too_long (raw_texts_from (length db.front) months items)) parts.1
      ∙ first_here (length db.front) (take n db.items) parts.0 it (Some here) w.texts first
      ∙ ap Some (omega (arith, w.start) ∙ sym (reaches (omega (arith, w.start, low_place, bytes, room, short))))

-- all items
pub walked_all : (db : Reading) (n place : ℕ) (t : Tables) → length db.items ≤ n → IsWalked db n place t → AreTables db t × (too_long_at db ≡ None)
walked_all db n place t end w =
    let taken_all : take n db.items ≡ db.items = take_all n db.items end in (
      subst (λ (items : List reading.Item). AreTablesOf items t) taken_all w.tables,
      ap (λ (items : List reading.Item). first_too_long (raw_texts_from (length db.front) months items)) (sym taken_all) ∙ w.texts,
    )

-- ---- the walk over a list

pub record WalkedTo (front_len : ℕ) (kept : List Item) (n place : ℕ) (t : Tables) : Type 0 where
  pub walked : (db : Reading) → HasItems front_len kept db → IsWalked db n place t

pub walk_start : (front_len : ℕ) (kept : List Item) (t : Tables) → AreTablesOf [] t → WalkedTo front_len kept 0 front_len t
walk_start front_len kept t none = record {
  walked = λ db is. record { tables = none; start = sym is.front ∙ omega arith; texts = refl };
}

module _ (front_len from to : ℕ) (all : List Item) (n k place : ℕ) (order : from ≤ to) (within : to ≤ length all)
    (number : k ≡ cond (nat_lt n from) n (n + (to - from))) (low : n < length all - (to - from)) where
  pub walk_more : (body trail : Text) (old new : Tables) (next : ℕ)
      → body ≡ (item_at all k).body → trail ≡ (item_at all k).trail
      → (place + length body + length trail < 2 ^ 64 → next ≡ place + length body + length trail)
      → OfTree body (λ tree. IsStep n tree old new)
      → WalkedTo front_len (without_range from to all) n place old → WalkedTo front_len (without_range from to all) (n + 1) next new
  walk_more body trail old new next body_is trail_is reaches step so_far = record {
    walked = λ db kept.
        let w = so_far.walked db kept in
        let i = item_is front_len from to all db n k order within number low kept in
        let bytes = length-append (tree_bytes i.it.tree) i.it.trail in
        let body_len = ap (λ (t : Text). length t) (body_is ∙ sym i.body) in
        let trail_len = ap (λ (t : Text). length t) (trail_is ∙ sym i.trail) in
        let end = room db n place i.it i.at in
        let before = flat_map item_bytes (take n db.items) in
        let all_bytes = length-append before (item_bytes i.it) in
        let grown : flat_map item_bytes (take (n + 1) db.items) ≡ before ++ item_bytes i.it =
        ap (flat_map item_bytes) (taken db n place i.it i.at) ∙ flat_map-append item_bytes (take n db.items) (i.it ∷ []) ∙ ap (λ (t : Text). before ++ t) (append-nil (item_bytes i.it)) in
        let next_is = reaches (omega (arith, w.start, end, body_len, trail_len, bytes, kept.file))
        ∙ omega (arith, w.start, body_len, trail_len, bytes, all_bytes, ap (λ (t : Text). length t) grown) in
        walked_more db n place i.it i.at next old new next_is (step i.it.tree i.tree (i.body ∙ sym body_is)) w;
  }

  pub walk_over : (body : Text) (t : Tables) (at result : ℕ)
      → body ≡ (item_at all k).body
      → (place + at < 2 ^ 64 → result ≡ place + at)
      → OfTree body (λ tree. IsTooLongAt n tree t at)
      → WalkedTo front_len (without_range from to all) n place t
      → (db : Reading) → HasItems front_len (without_range from to all) db → too_long_at db ≡ Some result
  walk_over body t at result body_is reaches over so_far db kept =
      let i = item_is front_len from to all db n k order within number low kept in
      walked_over db n place i.it i.at t at result reaches (over i.it.tree i.tree (i.body ∙ sym body_is)) kept.file (so_far.walked db kept)

pub walk_all : (front_len from to : ℕ) (all : List Item) (n place : ℕ) (t : Tables) → from ≤ to → to ≤ length all → length all - (to - from) ≤ n
    → WalkedTo front_len (without_range from to all) n place t
    → (db : Reading) → HasItems front_len (without_range from to all) db → AreTables db t × (too_long_at db ≡ None)
walk_all front_len from to all n place t order within end so_far db kept =
    let count : length db.items ≡ length all - (to - from) = sym (length-map db.items stored) ∙ ap (λ (l : List Item). length l) kept.same ∙ count_kept from to all order within in
    walked_all db n place t (omega (arith, count, end)) (so_far.walked db kept)

-- ---- the walk while a file is read

-- whatever the file says, its first n items have these tables
pub record ReadTo (file : Text) (n : ℕ) (t : Tables) : Type 0 where
  pub walked : (db : Reading) → Reads file db → IsWalked db n (start_of db n) t

pub read_start : (file : Text) (t : Tables) → AreTablesOf [] t → ReadTo file 0 t
read_start file t none = record { walked = λ db reads. record { tables = none; start = refl; texts = refl } }

-- tables that say the same
pub read_same : (file : Text) (n : ℕ) (old new : Tables) → SayTheSame old new → ReadTo file n old → ReadTo file n new
read_same file n old new same so_far = record {
  walked = λ db reads.
      let w = so_far.walked db reads in
      record { tables = same.tables (take n db.items) w.tables; start = w.start; texts = w.texts };
}

module _ (file : Text) (n : ℕ) (body : Text) (start : ℕ) (is : IsItemOf file n body start) where
  tree_at : (db : Reading) (reads : Reads file db) → IsTree name_limit (is db reads).it.tree
  tree_at db reads =
      let i = is db reads in
      let inside = slice_get_within db.items n i.it i.at in
      subst (λ (x : reading.Item). IsTree name_limit x.tree) (get_or_from_slice_get db.items n i.it i.it i.at) (reads.items n i.it inside).tree

  pub read_more : (old new : Tables) → OfTree body (λ tree. IsStep n tree old new) → ReadTo file n old → ReadTo file (n + 1) new
  read_more old new step so_far = record {
    walked = λ db reads.
        let i = is db reads in
        walked_more db n (start_of db n) i.it i.at (start_of db (n + 1)) old new refl (step i.it.tree (tree_at db reads) i.bytes) (so_far.walked db reads);
  }

  pub read_over : (t : Tables) (at result : ℕ) → (start + at < 2 ^ 64 → result ≡ start + at) → OfTree body (λ tree. IsTooLongAt n tree t at) → length file ≤ file_limit → ReadTo file n t
      → (db : Reading) → Reads file db → too_long_at db ≡ Some result
  read_over t at result reaches over short so_far db reads =
      let i = is db reads in
      let placed : start_of db n + at < 2 ^ 64 → result ≡ start_of db n + at = subst (λ (s : ℕ). s + at < 2 ^ 64 → result ≡ s + at) i.place reaches in
      walked_over db n (start_of db n) i.it i.at t at result placed (over i.it.tree (tree_at db reads) i.bytes) (subst (λ (b : Text). length b ≤ file_limit) (sym reads.bytes) short) (so_far.walked db reads)

pub read_all : (file : Text) (n : ℕ) (t : Tables) → AreAllOf file n → ReadTo file n t → (db : Reading) → Reads file db → AreTables db t × (too_long_at db ≡ None)
read_all file n t all so_far db reads = walked_all db n (start_of db n) t (omega (arith, all db reads)) (so_far.walked db reads)

-- tables are tables of these items, however long the file is said to be
pub with_len : (items : List reading.Item) (t : Tables) (n : ℕ) → AreTablesOf items t
    → AreTablesOf items (record { file_len = n; entries = t.entries; preambles = t.preambles; named = t.named; definitions = t.definitions; bounds = t.bounds })
with_len items t n are = record { entries = are.entries; preambles = are.preambles; named = are.named; definitions = are.definitions; bounds = are.bounds }

pub fault_cases : (f : ItemFault) → ((f ≡ Memory) ⊎ (f ≡ Unsettled)) ⊎ ((at : ℕ) × (f ≡ TooLong at))
fault_cases Memory = inl (inl refl)
fault_cases Unsettled = inl (inr refl)
fault_cases (TooLong at) = inr (at, refl)
