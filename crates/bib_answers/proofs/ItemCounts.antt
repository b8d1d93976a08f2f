-- How many of the items so far pass a test.
use Rattle.bib_answers.proofs.Words.{◌≡◌, ◌∙◌, ℕ, zero, suc, ◌+◌, ◌<◌, ◌≤◌, Bool, true, false, cond, List, [], ◌∷◌, length, take, drop, filter, Some, slice_get, sym, ap, ⊎_elim, slice_get_cases, same_Some, take_all, take-append-drop, Item, Reading, entries_of, is_entry_tree, entries_before}
use Rattle.std.proofs.Common.{count_by, arith, length-append}
use Rattle.std.proofs.lemmas.Option.{none-some}
use Rattle.std.proofs.lemmas.List.Sums.{length-filter}
use Rattle.std.proofs.lemmas.List.Filters.{length-filter_more}
use Rattle.std.proofs.lemmas.List.Elements.{filter-append}
use Rattle.bib_answers.proofs.EntryNumbers.{count_of_entries}

-- what is said of item n
abbrev pub Tells : (Item → Bool) → List Item → ℕ → Bool → Type 0
Tells test items n told = (item : Item) → slice_get items n ≡ Some item → told ≡ test item

pub passing_more : (test : Item → Bool) (items : List Item) (n : ℕ) (told : Bool) → n < length items → Tells test items n told
    → length (filter test (take (n + 1) items)) ≡ length (filter test (take n items)) + cond told 1 0
passing_more test items n told within tells = ⊎_elim
    (λ a. length-filter_more test items n a.0 within
    ∙ ap (λ (b : Bool). length (filter test (take n items)) + cond b 1 0) (ap test a.3 ∙ sym (tells a.0 a.2)))
    (λ b. absurd (let few = b.0 in omega (arith, within, few)))
    (slice_get_cases items n).1

pub counted_more : (test : Item → Bool) (items : List Item) (n : ℕ) (told : Bool) → n < length items → Tells test items n told
    → count_by test (take (n + 1) items) ≡ count_by test (take n items) + cond told 1 0
counted_more test items n told within tells =
    sym (length-filter test (take (n + 1) items))
    ∙ passing_more test items n told within tells
    ∙ ap (λ (k : ℕ). k + cond told 1 0) (length-filter test (take n items))

pub counted_all : (test : Item → Bool) (items : List Item) (n : ℕ) → length items ≤ n → count_by test (take n items) ≡ count_by test items
counted_all test items n all = ap (count_by test) (take_all n items all)

passing_within : (test : Item → Bool) (items : List Item) (k : ℕ) → length (filter test (take k items)) ≤ length (filter test items)
passing_within test items k =
    let parts : length (filter test items) ≡ length (filter test (take k items)) + length (filter test (drop k items)) =
    ap (λ (xs : List Item). length (filter test xs)) (sym (take-append-drop k items))
    ∙ ap (length {A = Item}) (filter-append test (take k items) (drop k items))
    ∙ length-append (filter test (take k items)) (filter test (drop k items)) in
    omega (arith, parts)

-- an item that is an entry has the number of the entries before it
pub number_within : (db : Reading) (n : ℕ) (item : Item) → n < length db.items → slice_get db.items n ≡ Some item → is_entry_tree item.tree ≡ true
    → entries_before db n < length (entries_of db)
number_within db n item within at is =
    let one = passing_more (λ i. is_entry_tree i.tree) db.items n true within (λ other that. sym is ∙ ap (λ (i : Item). is_entry_tree i.tree) (same_Some item other (sym at ∙ that))) in
    let few = passing_within (λ i. is_entry_tree i.tree) db.items (n + 1) in
    omega (arith, one, few, count_of_entries db)

-- ---- the counts before the next item

pub entries_counted : (db : Reading) (n : ℕ) (told : Bool) (entries : ℕ) → n < length db.items → Tells (λ item. is_entry_tree item.tree) db.items n told → entries ≡ entries_before db n
    → entries + cond told 1 0 ≡ entries_before db (n + 1)
entries_counted db n told entries within tells before =
    ap (λ (k : ℕ). k + cond told 1 0) before ∙ sym (passing_more (λ item. is_entry_tree item.tree) db.items n told within tells)

pub items_counted : (test : Item → Bool) (items : List Item) (n : ℕ) (told : Bool) (count : ℕ) → n < length items → Tells test items n told → count ≡ count_by test (take n items)
    → count + cond told 1 0 ≡ count_by test (take (n + 1) items)
items_counted test items n told count within tells before =
    ap (λ (k : ℕ). k + cond told 1 0) before ∙ sym (counted_more test items n told within tells)

pub counted_small : (told : Bool) (count n : ℕ) → count ≤ n → count + cond told 1 0 ≤ n + 1
counted_small true count n small = omega (arith, small)
counted_small false count n small = omega (arith, small)

-- an item that passes stands among those that do by the number of them before it
pub among_passing : (test : Item → Bool) (items : List Item) (n : ℕ) (x : Item) → slice_get items n ≡ Some x → test x ≡ true
    → slice_get (filter test items) (length (filter test (take n items))) ≡ Some x
among_passing test [] n x at is = absurd (none-some x at)
among_passing test (i ∷ items) zero x at is =
    ap (λ (b : Bool). slice_get (cond b (i ∷ filter test items) (filter test items)) 0) (ap test (same_Some i x at) ∙ is) ∙ at
among_passing test (i ∷ items) (suc n) x at is = one (test i) (among_passing test items n x at is)
  where
    one : (b : Bool) → slice_get (filter test items) (length (filter test (take n items))) ≡ Some x
        → slice_get (cond b (i ∷ filter test items) (filter test items)) (length (cond b (i ∷ filter test (take n items)) (filter test (take n items)))) ≡ Some x
    one true h = h
    one false h = h
