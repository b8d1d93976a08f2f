-- The search for the first item from a place on.
use Rattle.std.proofs.Common.{◌≡◌, ℕ, zero, suc, ◌+◌, ◌-◌, ◌/◌, ◌<◌, ◌≤◌, List, [], ◌∷◌, length, take, ap, subst, ⊎_elim, arith, length-append, not-suc-le-zero, le_of_suc-le-suc}
use Rattle.std.specs.List.{flat_map}
use Rattle.std.proofs.lemmas.Bool.{cases_lt}
use Rattle.bib_spec.specs.Tree.{tree_bytes}
use Rattle.bib_spec.specs.Reading.{Item, Reading, item_bytes}
use Rattle.bib_scan.specs.Layout.{start_of}
use Rattle.bib_scan.proofs.ReadingLaws.{some_bytes}
use Rattle.bib_shelf.specs.Items.{IsFirstFrom}

-- ---- places of items

-- more items have more bytes
more_bytes : (items : List Item) (m n : ℕ) → m < n → n ≤ length items → length (flat_map item_bytes (take m items)) < length (flat_map item_bytes (take n items))
more_bytes items m zero h g = absurd (not-suc-le-zero h)
more_bytes [] m (suc n) h g = absurd (not-suc-le-zero g)
more_bytes (item ∷ items) zero (suc n) h g =
    some (length (tree_bytes item.tree)) (length item.trail) (length (flat_map item_bytes (take n items)))
    (some_bytes item.tree) (length-append (tree_bytes item.tree) item.trail) (length-append (item_bytes item) (flat_map item_bytes (take n items)))
  where
    some : (a b c : ℕ) {ab abc : ℕ} → 0 < a → ab ≡ a + b → abc ≡ ab + c → 0 < abc
    some a b c h g f = omega arith
more_bytes (item ∷ items) (suc m) (suc n) h g =
    both (length (item_bytes item)) (more_bytes items m n (le_of_suc-le-suc h) (le_of_suc-le-suc g))
    (length-append (item_bytes item) (flat_map item_bytes (take m items))) (length-append (item_bytes item) (flat_map item_bytes (take n items)))
  where
    both : (a : ℕ) {b c ab ac : ℕ} → b < c → ab ≡ a + b → ac ≡ a + c → ab < ac
    both a h g f = omega arith

-- a later item begins at a later place
pub begins_later : (db : Reading) (m n : ℕ) → m < n → n ≤ length db.items → start_of db m < start_of db n
begins_later db m n h g = after (length db.front) (more_bytes db.items m n h g)
  where
    after : (a : ℕ) {b c : ℕ} → b < c → a + b < a + c
    after a h = omega arith

-- an item that is no later begins at no later place
pub begins_no_later : (db : Reading) (m n : ℕ) → m ≤ n → n ≤ length db.items → start_of db m ≤ start_of db n
begins_no_later db m n h g = ⊎_elim (λ less. weaker (begins_later db m n less g)) (λ more. same (start_of db m) (ap (start_of db) (equal more))) (cases_lt m n)
  where
    weaker : {a b : ℕ} → a < b → a ≤ b
    weaker h = omega arith

    equal : n ≤ m → m ≡ n
    equal more = omega (arith, h)

    same : (a : ℕ) {b : ℕ} → a ≡ b → a ≤ b
    same a h = omega arith

-- ---- the search

-- the search: each item before item `first` begins before the place, and item `end`, if there is one, does not
pub record IsSearched (db : Reading) (place first end : ℕ) : Type 0 where
  pub order : first ≤ end
  pub within : end ≤ length db.items
  pub before : (m : ℕ) → m < first → start_of db m < place
  pub from : end < length db.items → place ≤ start_of db end

-- at the start of the search
pub searched_none : (db : Reading) (place n : ℕ) → n ≡ length db.items → IsSearched db place 0 n
searched_none db place n is = record {
  order = omega arith;
  within = omega (arith, is);
  before = λ m h. absurd (not-suc-le-zero h);
  from = λ h. absurd (omega (arith, is, h));
}

-- the item in the middle is one of the file's
pub middle_within : (db : Reading) (place first end : ℕ) → IsSearched db place first end → first < end → first + (end - first) / 2 ≤ length db.items
middle_within db place first end it h = let within = it.within in omega (arith, within, h)

-- the item in the middle begins before the place
pub searched_up : (db : Reading) (place first end at : ℕ) → IsSearched db place first end → first < end → at ≡ start_of db (first + (end - first) / 2) → at < place →
    IsSearched db place (first + (end - first) / 2 + 1) end
searched_up db place first end at it some is early = record {
  order = omega (arith, some);
  within = it.within;
  before = λ m h. below (begins_no_later db m (first + (end - first) / 2) (omega (arith, h)) (middle_within db place first end it some)) is;
  from = it.from;
}
  where
    below : {a b : ℕ} → a ≤ b → at ≡ b → a < place
    below h g = omega (arith, early)

-- the item in the middle does not begin before the place
pub searched_down : (db : Reading) (place first end at : ℕ) → IsSearched db place first end → first < end → at ≡ start_of db (first + (end - first) / 2) → place ≤ at →
    IsSearched db place first (first + (end - first) / 2)
searched_down db place first end at it some is late = record {
  order = omega (arith, some);
  within = middle_within db place first end it some;
  before = it.before;
  from = λ h. reached is;
}
  where
    reached : {b : ℕ} → at ≡ b → place ≤ b
    reached h = omega (arith, late)

-- at the end of the search
pub searched_all : (db : Reading) (place first end : ℕ) → IsSearched db place first end → end ≤ first → IsFirstFrom db place first
searched_all db place first end it none = record {
  within = let within = it.within in let order = it.order in omega (arith, within, order, none);
  before = it.before;
  from = λ h. let order = it.order in subst (λ n. n < length db.items → place ≤ start_of db n) (omega (arith, order, none)) it.from h;
}

-- there is one such item
pub one_first : (db : Reading) (place n k : ℕ) → IsFirstFrom db place n → IsFirstFrom db place k → n ≡ k
one_first db place n k it other = ⊎_elim (λ less. absurd (apart n k it other less)) (λ more. ⊎_elim (λ less. absurd (apart k n other it less)) (λ no_more. equal more no_more) (cases_lt k n)) (cases_lt n k)
  where
    apart : (a b : ℕ) → IsFirstFrom db place a → IsFirstFrom db place b → a < b → ⊥
    apart a b one two less =
        let within = two.within in
        let early = two.before a less in
        let late = one.from (omega (arith, within, less)) in
        omega (arith, early, late)

    equal : k ≤ n → n ≤ k → n ≡ k
    equal h g = omega arith
