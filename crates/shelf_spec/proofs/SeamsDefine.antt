-- The seams of a shelf define no macro.
use Rattle.std.proofs.Common.{◌≡◌, ℕ, zero, suc, ◌+◌, ◌<◌, ◌≤◌, List, [], ◌∷◌, ◌++◌, Some, slice_get, length, take, fold, sym, ◌∙◌, ap, subst, arith, zero-add, length-append}
use Rattle.std.proofs.lemmas.List.{take-append-le}
use Rattle.std.proofs.lemmas.List.Sums.{fold-append}
use Rattle.std.proofs.lemmas.Option.{none-some, same_Some}
use Rattle.std.proofs.Math.Seq.{take-append-add, take-length}
use Rattle.bib_spec.specs.Reading.{Item, Reading}
use Rattle.bib_spec.specs.Texts.{Macros, months, macros_after, macros_at}
use Rattle.shelf_spec.specs.Shelf.{seam_item, on_shelf}
use Rattle.shelf_spec.specs.Numbers.{first_item, items_of, items_before}
use Rattle.shelf_spec.specs.Laws.{items_are_listed, items_see_the_same}
use Rattle.shelf_spec.proofs.ShelfPlaces.{slice_get-before, slice_get-after}

-- the number of an item of a later file: the items of the first file come before it
items_before-next : (db : Reading) (dbs : List Reading) (i p : ℕ) → items_before (suc i) (db ∷ dbs) + p ≡ length db.items + (items_before i dbs + p)
items_before-next db dbs i p =
    ap (λ n. n + p) (length-append db.items (items_of (take i dbs))) ∙ regroup (length db.items) (items_before i dbs)
  where
    regroup : (a b : ℕ) → (a + b) + p ≡ a + (b + p)
    regroup a b = omega arith

pub are_listed : items_are_listed
are_listed db dbs zero p its at h =
    ap (slice_get (items_of (db ∷ dbs))) (zero-add p)
    ∙ subst (λ d. p < length d.items → slice_get (items_of (db ∷ dbs)) p ≡ slice_get d.items p) (same_Some db its at) (slice_get-before db.items (items_of dbs) p) h
are_listed db [] (suc i) p its at h = absurd (none-some its at)
are_listed db (next ∷ dbs) (suc i) p its at h =
    ap (slice_get (items_of (db ∷ next ∷ dbs))) (items_before-next db (next ∷ dbs) i p)
    ∙ slice_get-after db.items (items_of (next ∷ dbs)) (items_before i (next ∷ dbs) + p)
    ∙ are_listed next dbs i p its at h

-- the macros before an item of the first list
macros_at-before : (m : Macros) (xs ys : List Item) (n : ℕ) → n ≤ length xs → macros_at m (xs ++ ys) n ≡ macros_at m xs n
macros_at-before m xs ys n h = ap (fold (λ m item. macros_after m item.tree) m) (take-append-le n xs ys h)

-- the macros before an item of the second list
macros_at-after : (m : Macros) (xs ys : List Item) (n : ℕ) → macros_at m (xs ++ ys) (length xs + n) ≡ macros_at (macros_at m xs (length xs)) ys n
macros_at-after m xs ys n =
    ap (fold f m) (take-append-add xs ys n) ∙ fold-append f m xs (take n ys) ∙ ap (λ l. fold f (fold f m l) (take n ys)) (sym (take-length xs))
  where
    f : Macros → Item → Macros
    f m item = macros_after m item.tree

-- the macros before an item of the first file
in_first : (m : Macros) (db : Reading) (dbs : List Reading) (p : ℕ) → p ≤ length db.items → macros_at m (on_shelf db dbs).items p ≡ macros_at m (items_of (db ∷ dbs)) p
in_first m db [] p h = sym (macros_at-before m db.items [] p h)
in_first m db (next ∷ dbs) p h =
    macros_at-before m db.items (seam_item (on_shelf next dbs).front ∷ (on_shelf next dbs).items) p h
    ∙ sym (macros_at-before m db.items (items_of (next ∷ dbs)) p h)

-- given the macros before the first file
from : (m : Macros) (db : Reading) (dbs : List Reading) (i p : ℕ) (its : Reading) → slice_get (db ∷ dbs) i ≡ Some its → p ≤ length its.items →
    macros_at m (on_shelf db dbs).items (first_item i (db ∷ dbs) + p) ≡ macros_at m (items_of (db ∷ dbs)) (items_before i (db ∷ dbs) + p)
from m db dbs zero p its at h =
    ap (macros_at m (on_shelf db dbs).items) (zero-add p)
    ∙ in_first m db dbs p (subst (λ d. p ≤ length d.items) (sym (same_Some db its at)) h)
    ∙ ap (macros_at m (items_of (db ∷ dbs))) (sym (zero-add p))
from m db [] (suc i) p its at h = absurd (none-some its at)
from m db (next ∷ dbs) (suc i) p its at h =
    let rest = on_shelf next dbs in
    let after = macros_at m db.items (length db.items) in
    ap (macros_at m (db.items ++ (seam_item rest.front ∷ rest.items))) (regroup (length db.items) (first_item i (next ∷ dbs)))
    ∙ macros_at-after m db.items (seam_item rest.front ∷ rest.items) (suc (first_item i (next ∷ dbs) + p))
    ∙ from after next dbs i p its at h
    ∙ sym (macros_at-after m db.items (items_of (next ∷ dbs)) (items_before i (next ∷ dbs) + p))
    ∙ ap (macros_at m (items_of (db ∷ next ∷ dbs))) (sym (items_before-next db (next ∷ dbs) i p))
  where
    regroup : (a b : ℕ) → (a + suc b) + p ≡ a + suc (b + p)
    regroup a b = omega arith

pub see_the_same : items_see_the_same
see_the_same = from months
