-- Numbers and places in a shelf.
use Rattle.std.proofs.Common.{◌≡◌, ℕ, zero, suc, ◌+◌, ◌-◌, ◌<◌, ◌≤◌, nat_lt, List, [], ◌∷◌, ◌++◌, Some, slice_get, length, take, drop, min, if◌then◌else◌, map, refl, sym, ◌∙◌, ap, subst, arith, zero-add, length-append, not-suc-le-zero, le_of_suc-le-suc}
use Rattle.std.specs.List.{flat_map}
use Rattle.std.proofs.lemmas.List.Concat.{flat_map-append}
use Rattle.std.proofs.lemmas.Bool.{cond-true, cond-false, lt-ltb, le-ltb}
use Rattle.std.proofs.lemmas.List.{take-append-le, take-append-drop}
use Rattle.std.proofs.Math.Nat.{min-eq_left}
use Rattle.std.proofs.Math.Seq.{take-append-add}
use Rattle.std.proofs.lemmas.Option.{none-some, same_Some}
use Rattle.bib_spec.specs.Text.{Text}
use Rattle.bib_spec.specs.Reading.{Reading, item_bytes, bytes_of}
use Rattle.shelf_spec.specs.Shelf.{seam, seam_item, with_seam, on_shelf}
use Rattle.shelf_spec.specs.Numbers.{first_item, first_place, item_place, located}
use Rattle.shelf_spec.specs.Laws.{items_are_numbered, places_are_located, items_are_placed, items_are_located}

pub slice_get-before : {X : Type 0} (xs ys : List X) (n : ℕ) → n < length xs → slice_get (xs ++ ys) n ≡ slice_get xs n
slice_get-before [] ys n h = absurd (not-suc-le-zero h)
slice_get-before (x ∷ xs) ys zero h = refl
slice_get-before (x ∷ xs) ys (suc n) h = slice_get-before xs ys n (le_of_suc-le-suc h)

pub slice_get-after : {X : Type 0} (xs ys : List X) (n : ℕ) → slice_get (xs ++ ys) (length xs + n) ≡ slice_get ys n
slice_get-after [] ys n = ap (slice_get ys) (zero-add n)
slice_get-after (x ∷ xs) ys n = ap (slice_get (x ∷ (xs ++ ys))) (one_more (length xs)) ∙ slice_get-after xs ys n
  where
    one_more : (a : ℕ) → suc a + n ≡ suc (a + n)
    one_more a = omega arith

-- an item of the first file
first_items : (db : Reading) (dbs : List Reading) (p : ℕ) → p < length db.items → slice_get (on_shelf db dbs).items p ≡ slice_get db.items p
first_items db [] p h = refl
first_items db (next ∷ dbs) p h = slice_get-before db.items (seam_item (on_shelf next dbs).front ∷ (on_shelf next dbs).items) p h

pub are_numbered : items_are_numbered
are_numbered db dbs zero p its at h =
    ap (slice_get (on_shelf db dbs).items) (zero-add p)
    ∙ subst (λ d. p < length d.items → slice_get (on_shelf db dbs).items p ≡ slice_get d.items p) (same_Some db its at) (first_items db dbs p) h
are_numbered db [] (suc i) p its at h = absurd (none-some its at)
are_numbered db (next ∷ dbs) (suc i) p its at h =
    let rest = on_shelf next dbs in
    ap (slice_get (db.items ++ (seam_item rest.front ∷ rest.items))) (regroup (length db.items) (first_item i (next ∷ dbs)))
    ∙ slice_get-after db.items (seam_item rest.front ∷ rest.items) (suc (first_item i (next ∷ dbs) + p))
    ∙ are_numbered next dbs i p its at h
  where
    regroup : (a b : ℕ) → (a + suc b) + p ≡ a + suc (b + p)
    regroup a b = omega arith

-- ---- places

first_places : (file : Text) (files : List Text) (place : ℕ) → place ≤ length file → located file files place ≡ (0, place)
first_places file [] place h = refl
first_places file (next ∷ more) place h =
    ap (λ m. if nat_lt place (length file + length seam) then (0, m) else
    (suc (located next more (place - (length file + length seam))).0, (located next more (place - (length file + length seam))).1)) (min-eq_left h)
    ∙ cond-true (nat_lt place (length file + length seam)) (0, place)
    (suc (located next more (place - (length file + length seam))).0, (located next more (place - (length file + length seam))).1)
    (lt-ltb place (length file + length seam) (small (length file) h))
  where
    small : (a : ℕ) → place ≤ a → place < a + length seam
    small a = omega arith

pub are_located : places_are_located
are_located file files zero place its at h = ap (located file files) (zero-add place) ∙ first_places file files place (subst (λ t. place ≤ length t) (sym (same_Some file its at)) h)
are_located file [] (suc i) place its at h = absurd (none-some its at)
are_located file (next ∷ more) (suc i) place its at h =
    let before = length file + length seam in
    let n = (before + first_place i (next ∷ more)) + place in
    cond-false (nat_lt n before) (0, min n (length file)) (suc (located next more (n - before)).0, (located next more (n - before)).1) (le-ltb n before (later before (first_place i (next ∷ more))))
    ∙ ap (λ m. let r = located next more m in (suc r.0, r.1)) (less before (first_place i (next ∷ more)))
    ∙ ap (λ r. let it : ℕ × ℕ = (suc r.0, r.1) in it) (are_located next more i place its at h)
  where
    later : (a b : ℕ) → a ≤ (a + b) + place
    later a b = omega arith

    less : (a b : ℕ) → ((a + b) + place) - a ≡ b + place
    less a b = omega arith

-- ---- places of items

-- the place of an item behind the seam
behind_seam : (db rest : Reading) (n : ℕ) → item_place (with_seam db rest) (length db.items + suc n) ≡ (length (bytes_of db) + length seam) + item_place rest n
behind_seam db rest n =
    let F = flat_map item_bytes in
    let seamed = seam_item rest.front in
    ap (λ l. length db.front + length (F l)) (take-append-add db.items (seamed ∷ rest.items) (suc n))
    ∙ ap (λ l. length db.front + length l) (flat_map-append item_bytes db.items (seamed ∷ take n rest.items))
    ∙ ap (λ k. length db.front + k) (length-append (F db.items) (seam ++ (rest.front ++ F (take n rest.items))))
    ∙ ap (λ k. length db.front + (length (F db.items) + k)) (length-append seam (rest.front ++ F (take n rest.items)))
    ∙ ap (λ k. length db.front + (length (F db.items) + (length seam + k))) (length-append rest.front (F (take n rest.items)))
    ∙ regroup (length db.front) (length (F db.items)) (length seam) (length rest.front + length (F (take n rest.items)))
    ∙ ap (λ k. (k + length seam) + item_place rest n) (sym (length-append db.front (F db.items)))
  where
    regroup : (a b c d : ℕ) → a + (b + (c + d)) ≡ ((a + b) + c) + d
    regroup a b c d = omega arith

-- the place of an item of the first file
first_placed : (db : Reading) (dbs : List Reading) (p : ℕ) → p ≤ length db.items → item_place (on_shelf db dbs) p ≡ item_place db p
first_placed db [] p h = refl
first_placed db (next ∷ dbs) p h =
    ap (λ l. length db.front + length (flat_map item_bytes l)) (take-append-le p db.items (seam_item (on_shelf next dbs).front ∷ (on_shelf next dbs).items) h)

pub are_placed : items_are_placed
are_placed db dbs zero p its at h =
    ap (item_place (on_shelf db dbs)) (zero-add p)
    ∙ subst (λ d. p ≤ length d.items → item_place (on_shelf db dbs) p ≡ item_place d p) (same_Some db its at) (first_placed db dbs p) h
    ∙ sym (zero-add (item_place its p))
are_placed db [] (suc i) p its at h = absurd (none-some its at)
are_placed db (next ∷ dbs) (suc i) p its at h =
    let rest = on_shelf next dbs in
    ap (item_place (with_seam db rest)) (regroup (length db.items) (first_item i (next ∷ dbs)))
    ∙ behind_seam db rest (first_item i (next ∷ dbs) + p)
    ∙ ap (λ k. (length (bytes_of db) + length seam) + k) (are_placed next dbs i p its at h)
    ∙ gather (length (bytes_of db) + length seam) (first_place i (map bytes_of (next ∷ dbs))) (item_place its p)
  where
    regroup : (a b : ℕ) → (a + suc b) + p ≡ a + suc (b + p)
    regroup a b = omega arith

    gather : (a b c : ℕ) → a + (b + c) ≡ (a + b) + c
    gather a b c = omega arith

-- ---- places of items, located

-- no item begins after the end of the file
item_place-within : (db : Reading) (p : ℕ) → item_place db p ≤ length (bytes_of db)
item_place-within db p =
    let F = flat_map item_bytes in
    subst (λ k. item_place db p ≤ k) (sym (whole)) (within (length db.front) (length (F (take p db.items))) (length (F (drop p db.items))))
  where
    whole : length (bytes_of db) ≡ length db.front + (length (flat_map item_bytes (take p db.items)) + length (flat_map item_bytes (drop p db.items)))
    whole = length-append db.front (flat_map item_bytes db.items)
        ∙ ap (λ l. length db.front + length (flat_map item_bytes l)) (sym (take-append-drop p db.items))
        ∙ ap (λ l. length db.front + length l) (flat_map-append item_bytes (take p db.items) (drop p db.items))
        ∙ ap (λ k. length db.front + k) (length-append (flat_map item_bytes (take p db.items)) (flat_map item_bytes (drop p db.items)))

    within : (a b c : ℕ) → a + b ≤ a + (b + c)
    within a b c = omega arith

-- the bytes of file i
pub bytes_at : (dbs : List Reading) (i : ℕ) (its : Reading) → slice_get dbs i ≡ Some its → slice_get (map bytes_of dbs) i ≡ Some (bytes_of its)
bytes_at [] zero its at = absurd (none-some its at)
bytes_at [] (suc i) its at = absurd (none-some its at)
bytes_at (db ∷ dbs) zero its at = ap (λ d. Some (bytes_of d)) (same_Some db its at)
bytes_at (db ∷ dbs) (suc i) its at = bytes_at dbs i its at

pub are_placed_and_located : items_are_located
are_placed_and_located db dbs i p its at h =
    ap (located (bytes_of db) (map bytes_of dbs)) (are_placed db dbs i p its at h)
    ∙ are_located (bytes_of db) (map bytes_of dbs) i (item_place its p) (bytes_of its) (bytes_at (db ∷ dbs) i its at) (item_place-within its p)
