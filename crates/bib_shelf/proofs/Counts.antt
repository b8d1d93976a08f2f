-- The first item of each file of a shelf, and how many items the file has.
use Rattle.std.proofs.Common.{◌≡◌, ℕ, zero, suc, ◌+◌, ◌-◌, ◌<◌, ◌≤◌, List, [], ◌∷◌, ◌++◌, Some, slice_get, slice_index_or, length, map, refl, sym, ◌∙◌, ap, ap₂, subst, arith, length-append, not-suc-le-zero}
use Rattle.std.specs.List.{flat_map}
use Rattle.std.proofs.lemmas.Option.{none-some, same_Some}
use Rattle.std.proofs.Math.Seq.{take-length}
use Rattle.bib_spec.specs.Text.{Text}
use Rattle.bib_spec.specs.Reading.{Item, Reading, Reads, item_bytes, bytes_of}
use Rattle.bib_store.specs.Readings.{OfReading}
use Rattle.bib_scan.specs.Layout.{start_of}
use Rattle.shelf_spec.specs.Shelf.{seam, seam_item, on_shelf, AllRead}
use Rattle.shelf_spec.specs.Numbers.{first_item, first_place, item_place}
use Rattle.shelf_spec.proofs.ShelfPlaces.{are_placed, bytes_at}
use Rattle.shelf_spec.proofs.ShelfReads.{shelf-reads}
use Rattle.bib_shelf.specs.Joined.{text_of}
use Rattle.bib_shelf.specs.Items.{IsFirstFrom, items_at}
use Rattle.bib_shelf.proofs.Searches.{begins_later, begins_no_later, one_first}
use Rattle.bib_shelf.proofs.Opens.{IsFile, starts_at, ends_at}

-- ---- numbers and places of the next file

-- the first item of the next file: the items of this one come before it, and a seam
first_item-next : (dbs : List Reading) (i : ℕ) (its : Reading) → slice_get dbs i ≡ Some its → first_item (suc i) dbs ≡ suc (first_item i dbs + length its.items)
first_item-next [] i its at = absurd (none-some its at)
first_item-next (db ∷ dbs) zero its at = ap (λ (d : Reading). length d.items + 1) (same_Some db its at) ∙ last (length its.items)
  where
    last : (a : ℕ) → a + 1 ≡ suc (0 + a)
    last a = omega arith
first_item-next (db ∷ dbs) (suc i) its at = ap (λ n. length db.items + suc n) (first_item-next dbs i its at) ∙ regroup (length db.items) (first_item i dbs) (length its.items)
  where
    regroup : (a b c : ℕ) → a + suc (suc (b + c)) ≡ suc ((a + suc b) + c)
    regroup a b c = omega arith

-- the next file begins after the bytes of this one, and a seam
first_place-next : (files : List Text) (i : ℕ) (file : Text) → slice_get files i ≡ Some file → first_place (suc i) files ≡ (first_place i files + length file) + length seam
first_place-next [] i file at = absurd (none-some file at)
first_place-next (first ∷ files) zero file at = ap (λ (t : Text). (length t + length seam) + 0) (same_Some first file at) ∙ last (length file) (length seam)
  where
    last : (a b : ℕ) → (a + b) + 0 ≡ (0 + a) + b
    last a b = omega arith
first_place-next (first ∷ files) (suc i) file at = ap (λ n. (length first + length seam) + n) (first_place-next files i file at) ∙ regroup (length first + length seam) (first_place i files) (length file) (length seam)
  where
    regroup : (a b c d : ℕ) → a + ((b + c) + d) ≡ ((a + b) + c) + d
    regroup a b c d = omega arith

-- the file before another one
file_before : (dbs : List Reading) (i : ℕ) (its : Reading) → slice_get dbs (suc i) ≡ Some its → (other : Reading) × (slice_get dbs i ≡ Some other)
file_before [] i its at = absurd (none-some its at)
file_before (db ∷ dbs) zero its at = (db, refl)
file_before (db ∷ dbs) (suc i) its at = file_before dbs i its at

-- the shelf has all items of the file
has_items : (db : Reading) (dbs : List Reading) (i : ℕ) (its : Reading) → slice_get (db ∷ dbs) i ≡ Some its → first_item i (db ∷ dbs) + length its.items ≤ length (on_shelf db dbs).items
has_items db [] zero its at = subst (λ d. 0 + length d.items ≤ length db.items) (same_Some db its at) (omega arith)
has_items db (next ∷ dbs) zero its at =
    let rest = on_shelf next dbs in
    subst (λ d. 0 + length d.items ≤ length (db.items ++ seam_item rest.front ∷ rest.items)) (same_Some db its at)
    (first (length db.items) (length rest.items) (length-append db.items (seam_item rest.front ∷ rest.items)))
  where
    first : (a b : ℕ) {n : ℕ} → n ≡ a + suc b → 0 + a ≤ n
    first a b h = omega arith
has_items db [] (suc i) its at = absurd (none-some its at)
has_items db (next ∷ dbs) (suc i) its at =
    let rest = on_shelf next dbs in
    later (length db.items) (first_item i (next ∷ dbs)) (length its.items) (length-append db.items (seam_item rest.front ∷ rest.items)) (has_items next dbs i its at)
  where
    later : (a b c : ℕ) {n m : ℕ} → n ≡ a + suc m → b + c ≤ m → (a + suc b) + c ≤ n
    later a b c h g = omega arith

-- ---- the first item, and the first after the file

-- the file ends where its last item does
file_ends : (db : Reading) (dbs : List Reading) (i : ℕ) (its : Reading) → slice_get (db ∷ dbs) i ≡ Some its →
    start_of (on_shelf db dbs) (first_item i (db ∷ dbs) + length its.items) ≡ first_place i (map bytes_of (db ∷ dbs)) + length (bytes_of its)
file_ends db dbs i its at =
    are_placed db dbs i (length its.items) its at (omega arith)
    ∙ ap (λ (l : List Item). first_place i (map bytes_of (db ∷ dbs)) + (length its.front + length (flat_map item_bytes l))) (take-length its.items)
    ∙ ap (λ n. first_place i (map bytes_of (db ∷ dbs)) + n) (sym (length-append its.front (flat_map item_bytes its.items)))

-- the first item of the file does not begin before the file
file_begins : (db : Reading) (dbs : List Reading) (i : ℕ) (its : Reading) → slice_get (db ∷ dbs) i ≡ Some its →
    first_place i (map bytes_of (db ∷ dbs)) ≤ start_of (on_shelf db dbs) (first_item i (db ∷ dbs))
file_begins db dbs i its at =
    from (first_place i (map bytes_of (db ∷ dbs))) (item_place its 0)
    (ap (start_of (on_shelf db dbs)) (sym (add-zero (first_item i (db ∷ dbs)))) ∙ are_placed db dbs i 0 its at (omega arith))
  where
    from : (a b : ℕ) {n : ℕ} → n ≡ a + b → a ≤ n
    from a b h = omega arith

    add-zero : (n : ℕ) → n + 0 ≡ n
    add-zero n = omega arith

-- each item before the file begins before the file does
before_file : (db : Reading) (dbs : List Reading) (i : ℕ) (its : Reading) → slice_get (db ∷ dbs) i ≡ Some its →
    (m : ℕ) → m < first_item i (db ∷ dbs) → start_of (on_shelf db dbs) m < first_place i (map bytes_of (db ∷ dbs))
before_file db dbs zero its at m h = absurd (not-suc-le-zero h)
before_file db dbs (suc i) its at m h =
    let it = file_before (db ∷ dbs) i its at in
    let last = first_item i (db ∷ dbs) + length it.0.items in
    in_front (begins_no_later (on_shelf db dbs) m last (no_later (first_item-next (db ∷ dbs) i it.0 it.1)) (has_items db dbs i it.0 it.1))
    (file_ends db dbs i it.0 it.1) (first_place-next (map bytes_of (db ∷ dbs)) i (bytes_of it.0) (bytes_at (db ∷ dbs) i it.0 it.1))
  where
    no_later : {last : ℕ} → first_item (suc i) (db ∷ dbs) ≡ suc last → m ≤ last
    no_later is = omega (arith, is, h)

    in_front : {a b c n : ℕ} → a ≤ b → b ≡ n → c ≡ n + length seam → a < c
    in_front le ends next = omega (arith, le, ends, next)

-- the first item of the file is the first that does not begin before the file
first_of_file : (db : Reading) (dbs : List Reading) (i : ℕ) (its : Reading) → slice_get (db ∷ dbs) i ≡ Some its →
    IsFirstFrom (on_shelf db dbs) (first_place i (map bytes_of (db ∷ dbs))) (first_item i (db ∷ dbs))
first_of_file db dbs i its at = record {
  within = less (length its.items) (has_items db dbs i its at);
  before = before_file db dbs i its at;
  from = λ h. file_begins db dbs i its at;
}
  where
    less : (a : ℕ) {n m : ℕ} → n + a ≤ m → n ≤ m
    less a h = omega arith

-- the item after the last of the file is the first that does not begin before the end of the file
first_after_file : (db : Reading) (dbs : List Reading) (i : ℕ) (its : Reading) → slice_get (db ∷ dbs) i ≡ Some its →
    IsFirstFrom (on_shelf db dbs) (first_place i (map bytes_of (db ∷ dbs)) + length (bytes_of its)) (first_item i (db ∷ dbs) + length its.items)
first_after_file db dbs i its at = record {
  within = has_items db dbs i its at;
  before = λ m h. subst (λ n. start_of (on_shelf db dbs) m < n) (file_ends db dbs i its at)
      (begins_later (on_shelf db dbs) m (first_item i (db ∷ dbs) + length its.items) h (has_items db dbs i its at));
  from = λ h. same (sym (file_ends db dbs i its at));
}
  where
    same : {a b : ℕ} → a ≡ b → a ≤ b
    same h = omega arith

-- ---- the answer

-- the readings of all files have the bytes of the files
bytes_of_all : (files : List Text) (dbs : List Reading) → AllRead files dbs → map bytes_of dbs ≡ files
bytes_of_all [] [] all = refl
bytes_of_all [] (db ∷ dbs) all = absurd all
bytes_of_all (file ∷ files) [] all = absurd all
bytes_of_all (file ∷ files) (db ∷ dbs) all = ap₂ (λ (t : Text) (l : List Text). t ∷ l) all.0.bytes (bytes_of_all files dbs all.1)

-- the reading of file i
reading_of : (files : List Text) (dbs : List Reading) (i : ℕ) (file : Text) → AllRead files dbs → slice_get files i ≡ Some file →
    (its : Reading) × (slice_get dbs i ≡ Some its) × (bytes_of its ≡ file)
reading_of [] dbs i file all at = absurd (none-some file at)
reading_of (first ∷ files) [] i file all at = absurd all
reading_of (first ∷ files) (db ∷ dbs) zero file all at = (db, refl, all.0.bytes ∙ same_Some first file at)
reading_of (first ∷ files) (db ∷ dbs) (suc i) file all at = reading_of files dbs i file all.1 at

-- the items of file i
items_of_reading : (dbs : List Reading) (i : ℕ) (its : Reading) → slice_get dbs i ≡ Some its → slice_index_or (map (λ (db : Reading). db.items) dbs) i [] ≡ its.items
items_of_reading [] i its at = absurd (none-some its at)
items_of_reading (db ∷ dbs) zero its at = ap (λ (d : Reading). d.items) (same_Some db its at)
items_of_reading (db ∷ dbs) (suc i) its at = items_of_reading dbs i its at

-- the two items that were found are the first of the file, and the first after it
pub items_found : (files : List Text) (dbs : List Reading) (text : Text) (i first next : ℕ) (s : ℕ × ℕ) → AllRead files dbs → text ≡ text_of files → IsFile files 0 i s →
    OfReading text (λ db. IsFirstFrom db s.0 first) → OfReading text (λ db. IsFirstFrom db s.1 next) → (first, next - first) ≡ items_at dbs i
items_found [] dbs text i first next s all is it from after = absurd (none-some it.its it.at_i)
items_found (file ∷ files) [] text i first next s all is it from after = absurd all
items_found (file ∷ files) (db ∷ dbs) text i first next s all is it from after =
    let read = reading_of (file ∷ files) (db ∷ dbs) i it.its all it.at_i in
    let its = read.0 in
    let at = read.1 in
    let reads : Reads text (on_shelf db dbs) = subst (λ (t : Text). Reads t (on_shelf db dbs)) (sym is) (shelf-reads file db files dbs all.0 all.1) in
    let starts : s.0 ≡ first_place i (map bytes_of (db ∷ dbs)) = starts_at (file ∷ files) i s it ∙ ap (first_place i) (sym (bytes_of_all (file ∷ files) (db ∷ dbs) all)) in
    let ends : s.1 ≡ first_place i (map bytes_of (db ∷ dbs)) + length (bytes_of its) =
    ends_at (file ∷ files) i s it ∙ ap₂ (λ (l : List Text) (t : Text). first_place i l + length t) (sym (bytes_of_all (file ∷ files) (db ∷ dbs) all)) (sym read.2) in
    let begins = one_first (on_shelf db dbs) s.0 first (first_item i (db ∷ dbs)) (from (on_shelf db dbs) reads)
    (subst (λ n. IsFirstFrom (on_shelf db dbs) n (first_item i (db ∷ dbs))) (sym starts) (first_of_file db dbs i its at)) in
    let comes = one_first (on_shelf db dbs) s.1 next (first_item i (db ∷ dbs) + length its.items) (after (on_shelf db dbs) reads)
    (subst (λ n. IsFirstFrom (on_shelf db dbs) n (first_item i (db ∷ dbs) + length its.items)) (sym ends) (first_after_file db dbs i its at)) in
    ap₂ (λ a b. let q : ℕ × ℕ = (a, b) in q) begins (count (length its.items) begins comes ∙ ap (length {A = Item}) (sym (items_of_reading (db ∷ dbs) i its at)))
  where
    count : (a : ℕ) {f n m : ℕ} → n ≡ f → m ≡ f + a → m - n ≡ a
    count a h g = omega arith
