-- If a side left the common file, the file of the other side is a merge; so is the file of both, if they are the same.
use Rattle.std.proofs.Common.{◌≡◌, ℕ, zero, suc, ◌+◌, ◌≤◌, ◌<◌, ◌==◌, Bool, true, false, cond, ◌&&◌, ◌||◌, List, [], ◌∷◌, ◌++◌, Option, None, Some, length, map, filter_map, slice_get, count_by, refl, sym, ◌∙◌, ap, ap₂, subst, arith, ⊎_elim, ◌⊎◌, inl, inr}
use Rattle.std.specs.Prelude.{nat_le, is_some, bytes_eq}
use Rattle.std.specs.List.{flat_map, list_all, range_with_len, cons_option}
use Rattle.std.specs.Option.{option_map_or}
use Rattle.std.proofs.lemmas.Bool.{cases_Bool, cases_order, and_from, and_parts, eq-eqb, eqb-true, le-leb}
use Rattle.std.proofs.lemmas.List.Sums.{sum_by-cons, sum_by-append}
use Rattle.std.proofs.lemmas.List.Folds.{list_all-append, list_all-map}
use Rattle.std.proofs.lemmas.List.Elements.{filter_map-append}
use Rattle.std.proofs.lemmas.List.Concat.{flat_map-append}
use Rattle.std.proofs.lemmas.Slice.Eq.{bytes_eq-Decides}
use Rattle.bib_spec.specs.Text.{Text, is_space}
use Rattle.bib_spec.specs.Reading.{Reading, bytes_of}
use Rattle.merge_spec.specs.Units.{Unit, Spaced, Label, EntryLabel, MacroLabel, BytesLabel, label_of, same_label, unit_bytes, spaced_bytes, spaced_of, units_of, first_space}
use Rattle.merge_spec.specs.ThreeWay.{Outcome, Ours, Theirs, Gone, both_agree, is_unchanged}
use Rattle.merge_spec.specs.Merged.{Place, unit_at, is_number, are_once, share_label, may_come, is_settled, place_bytes, merged_bytes, label_left, labels_left, is_seldom, are_seldom}
use Rattle.merge_spec.specs.Conflicts.{conflict_at, conflicts_of}
use Rattle.merge_spec.proofs.UnitTexts.{units-are_the_file}
use Rattle.bib_merge.specs.Bodies.{bodies_of, version_bodies, place_bodies, merged_bodies}
use Rattle.bib_merge.specs.Merges.{IsMergeOf}
use Rattle.bib_merge.proofs.UnitItems.{units-have_items}
use Rattle.bib_merge.proofs.Spaces.{ends_in_space, units-end_in_space}

-- ---- numbers

-- more than one number is one, and then the others
count-cons : {X : Type 0} (test : X → Bool) (x : X) (xs : List X) → count_by test (x ∷ xs) ≡ cond (test x) 1 0 + count_by test xs
count-cons test x xs = sum_by-cons (λ y. cond (test y) 1 0) x xs

same_number : (n : ℕ) → (n == n) ≡ true
same_number n = eq-eqb n n refl

other_number : (m n : ℕ) → n < m → (m == n) ≡ false
other_number m n less = ⊎_elim (λ e. absurd (no m n less (eqb_is m n e))) (λ e. e) (cases_Bool (m == n))
  where
    no : (a b : ℕ) → b < a → a ≡ b → ⊥
    no a b h e = omega (arith, h, e)

    eqb_is : (a b : ℕ) → (a == b) ≡ true → a ≡ b
    eqb_is = eqb-true

-- a number below a range is not in it
count-below : (side : Place → Option ℕ) (at : ℕ → Place) (n from count : ℕ) → ((k : ℕ) → side (at k) ≡ Some k) → n < from →
    count_by (is_number n) (map side (map at (range_with_len from count))) ≡ 0
count-below side at n from zero is less = refl
count-below side at n from (suc count) is less =
    count-cons (is_number n) (side (at from)) (map side (map at (range_with_len (from + 1) count)))
    ∙ ap₂ (λ b k. cond b 1 0 + k) (ap (is_number n) (is from) ∙ other_number from n less) (count-below side at n (from + 1) count is (more n from less))
  where
    more : (a b : ℕ) → a < b → a < b + 1
    more a b = omega arith

-- a number of a range is in it once
count-within : (side : Place → Option ℕ) (at : ℕ → Place) (n from count : ℕ) → ((k : ℕ) → side (at k) ≡ Some k) → from ≤ n → n < from + count →
    count_by (is_number n) (map side (map at (range_with_len from count))) ≡ 1
count-within side at n from zero is low high = absurd (none n from low high)
  where
    none : (a b : ℕ) → b ≤ a → a < b + 0 → ⊥
    none a b = omega arith
count-within side at n from (suc count) is low high =
    count-cons (is_number n) (side (at from)) (map side (map at (range_with_len (from + 1) count)))
    ∙ ⊎_elim
    (λ e. ap₂ (λ b k. cond b 1 0 + k) (ap (is_number n) (is from) ∙ subst (λ k. (from == k) ≡ true) e (same_number from))
    (count-below side at n (from + 1) count is (subst (λ k. k < from + 1) e (next from))))
    (λ less. ap₂ (λ b k. cond b 1 0 + k) (ap (is_number n) (is from) ∙ later from n less) (count-within side at n (from + 1) count is (after from n less) (shift from count n high)))
    (equal_or_less from n low)
  where
    next : (a : ℕ) → a < a + 1
    next a = omega arith

    later : (a b : ℕ) → a < b → (a == b) ≡ false
    later a b less = ⊎_elim (λ e. absurd (no a b less (eqb-true a b e))) (λ e. e) (cases_Bool (a == b))
      where
        no : (x y : ℕ) → x < y → x ≡ y → ⊥
        no x y h e = omega (arith, h, e)

    after : (a b : ℕ) → a < b → a + 1 ≤ b
    after a b = omega arith

    shift : (a b k : ℕ) → k < a + suc b → k < (a + 1) + b
    shift a b k = omega arith

    equal_or_less : (a b : ℕ) → a ≤ b → (a ≡ b) ⊎ (a < b)
    equal_or_less a b low = ⊎_elim (λ e. inl e) (λ r. ⊎_elim (λ less. inr less) (λ more. absurd (past a b low more)) r) (cases_order a b)
      where
        past : (x y : ℕ) → x ≤ y → y < x → ⊥
        past x y = omega arith

-- no number is in places that have none
count-none : (side : Place → Option ℕ) (n : ℕ) (at : ℕ → Place) (numbers : List ℕ) → ((k : ℕ) → side (at k) ≡ None) → count_by (is_number n) (map side (map at numbers)) ≡ 0
count-none side n at [] is = refl
count-none side n at (k ∷ numbers) is =
    count-cons (is_number n) (side (at k)) (map side (map at numbers)) ∙ ap₂ (λ b m. cond b 1 0 + m) (ap (is_number n) (is k)) (count-none side n at numbers is)

-- a test that all numbers of a range pass
range-passes : (test : ℕ → Bool) (from count : ℕ) → ((n : ℕ) → from ≤ n → n < from + count → test n ≡ true) → list_all test (range_with_len from count) ≡ true
range-passes test from zero passes = refl
range-passes test from (suc count) passes =
    ap₂ (λ a b. a && b) (passes from (least from) (first from count))
    (range-passes test (from + 1) count (λ n low high. passes n (less from n low) (more from count n high)))
  where
    least : (a : ℕ) → a ≤ a
    least a = omega arith

    first : (a b : ℕ) → a < a + suc b
    first a b = omega arith

    less : (a b : ℕ) → a + 1 ≤ b → a ≤ b
    less a b = omega arith

    more : (a b k : ℕ) → k < (a + 1) + b → k < a + suc b
    more a b k = omega arith

map-append : {X Y : Type 0} (f : X → Y) (xs ys : List X) → map f (xs ++ ys) ≡ map f xs ++ map f ys
map-append f [] ys = refl
map-append f (x ∷ xs) ys = ap (λ l. f x ∷ l) (map-append f xs ys)

count-both : (side : Place → Option ℕ) (n : ℕ) (xs ys : List Place) → count_by (is_number n) (map side (xs ++ ys)) ≡ count_by (is_number n) (map side xs) + count_by (is_number n) (map side ys)
count-both side n xs ys = ap (count_by (is_number n)) (map-append side xs ys) ∙ sum_by-append (λ k. cond (is_number n k) 1 0) (map side xs) (map side ys)

-- two ranges of places
abbrev pub both_ranges : (ℕ → Place) → ℕ → (ℕ → Place) → ℕ → List Place
both_ranges first n second m = map first (range_with_len 0 n) ++ map second (range_with_len 0 m)

-- each number is once in the first of them
once-first : (side : Place → Option ℕ) (first second : ℕ → Place) (n m : ℕ) → ((k : ℕ) → side (first k) ≡ Some k) → ((k : ℕ) → side (second k) ≡ None) →
    are_once n (map side (both_ranges first n second m)) ≡ true
once-first side first second n m here none =
    range-passes _ 0 n (λ k low high. ap (λ c. c == 1)
    (count-both side k (map first (range_with_len 0 n)) (map second (range_with_len 0 m))
    ∙ ap₂ (λ a b. a + b) (count-within side first k 0 n here low high) (count-none side k second (range_with_len 0 m) none)))

-- each number is once in the second of them
once-second : (side : Place → Option ℕ) (first second : ℕ → Place) (n m : ℕ) → ((k : ℕ) → side (first k) ≡ None) → ((k : ℕ) → side (second k) ≡ Some k) →
    are_once m (map side (both_ranges first n second m)) ≡ true
once-second side first second n m none here =
    range-passes _ 0 m (λ k low high. ap (λ c. c == 1)
    (count-both side k (map first (range_with_len 0 n)) (map second (range_with_len 0 m))
    ∙ ap₂ (λ a b. a + b) (count-none side k first (range_with_len 0 n) none) (count-within side second k 0 m here low high)))

-- ---- elements by their numbers

range-shift : (from count : ℕ) → range_with_len (from + 1) count ≡ map suc (range_with_len from count)
range-shift from zero = refl
range-shift from (suc count) = ap₂ (λ k l. k ∷ l) (one_more from) (range-shift (from + 1) count)
  where
    one_more : (a : ℕ) → a + 1 ≡ suc a
    one_more a = omega arith

map-map : {X Y Z : Type 0} (f : Y → Z) (g : X → Y) (xs : List X) → map f (map g xs) ≡ map (λ x. f (g x)) xs
map-map f g [] = refl
map-map f g (x ∷ xs) = ap (λ l. f (g x) ∷ l) (map-map f g xs)

filter_map-map : {X Y Z : Type 0} (f : Y → Option Z) (g : X → Y) (xs : List X) → filter_map f (map g xs) ≡ filter_map (λ x. f (g x)) xs
filter_map-map f g [] = refl
filter_map-map f g (x ∷ xs) = ap (λ l. cons_option (f (g x)) l) (filter_map-map f g xs)

flat_map-map : {X Y Z : Type 0} (f : Y → List Z) (g : X → Y) (xs : List X) → flat_map f (map g xs) ≡ flat_map (λ x. f (g x)) xs
flat_map-map f g [] = refl
flat_map-map f g (x ∷ xs) = ap (λ l. f (g x) ++ l) (flat_map-map f g xs)

-- the elements of a list, by their numbers
each-get : {X : Type 0} (xs : List X) → map (slice_get xs) (range_with_len 0 (length xs)) ≡ map (λ x. Some x) xs
each-get [] = refl
each-get {X} (x ∷ xs) =
    ap (λ l. Some x ∷ map (slice_get (x ∷ xs)) l) (range-shift 0 (length xs)) ∙ ap (λ l. Some x ∷ l) (map-map (slice_get (x ∷ xs)) suc (range_with_len 0 (length xs)) ∙ each-get xs)

-- the element with this number
there : {X : Type 0} (xs : List X) (n : ℕ) → n < length xs → is_some (slice_get xs n) ≡ true
there [] n less = absurd (none n less)
  where
    none : (a : ℕ) → a < 0 → ⊥
    none a = omega arith
there (x ∷ xs) zero less = refl
there (x ∷ xs) (suc n) less = there xs n (fewer n (length xs) less)
  where
    fewer : (a b : ℕ) → suc a < suc b → a < b
    fewer a b = omega arith

-- what is asked of each element holds of the one with this number
get-passes : {X : Type 0} (test : X → Bool) (xs : List X) (n : ℕ) → list_all test xs ≡ true → option_map_or test (slice_get xs n) true ≡ true
get-passes test [] n all = refl
get-passes test (x ∷ xs) zero all = (and_parts _ _ all).0
get-passes test (x ∷ xs) (suc n) all = get-passes test xs n (and_parts _ _ all).1

get-map : {X Y : Type 0} (f : X → Y) (xs : List X) (n : ℕ) → slice_get (map f xs) n ≡ option_map_or (λ x. Some (f x)) (slice_get xs n) None
get-map f [] n = refl
get-map f (x ∷ xs) zero = refl
get-map f (x ∷ xs) (suc n) = get-map f xs n

-- ---- units that are the same

same_text : (t : Text) → bytes_eq t t ≡ true
same_text t = (bytes_eq-Decides t t).1 refl

label-same : (l : Label) → same_label l l ≡ true
label-same (EntryLabel key) = same_text key
label-same (MacroLabel name) = same_text name
label-same (BytesLabel bytes) = same_text bytes

shares : (u : Option Unit) → share_label u u ≡ true
shares None = refl
shares (Some u) = label-same (label_of u)

unchanged : (u : Option Unit) → is_unchanged u u ≡ true
unchanged None = refl
unchanged (Some u) = ap (λ b. b || both_agree u.macros u.tree u.macros u.tree) (same_text (unit_bytes u))

none_shares : (u : Option Unit) → share_label u None ≡ true
none_shares None = refl
none_shares (Some u) = refl

or_true : (b : Bool) → (b || true) ≡ true
or_true true = refl
or_true false = refl

-- the white space after the unit with this number
abbrev pub space_at : List Spaced → ℕ → Text
space_at units n = option_map_or (λ s. s.space) (slice_get units n) []

space-is_space : (db : Reading) (n : ℕ) → list_all is_space (space_at (spaced_of db) n) ≡ true
space-is_space db n = passes (slice_get (spaced_of db) n) (get-passes ends_in_space (spaced_of db) n (units-end_in_space db))
  where
    passes : (s : Option Spaced) → option_map_or ends_in_space s true ≡ true → list_all is_space (option_map_or (λ x. x.space) s []) ≡ true
    passes None is = refl
    passes (Some s) is = is

length-units : (xs : List Spaced) → length (map (λ s. s.unit) xs) ≡ length xs
length-units [] = refl
length-units (x ∷ xs) = ap suc (length-units xs)

-- ---- places

abbrev place : Option ℕ → Option ℕ → Option ℕ → Outcome → Text → Place
place b o t outcome space = record { base = b; ours = o; theirs = t; outcome = outcome; space = space }

-- all of two ranges of places are settled if each is
settled-both : (test : Place → Bool) (first second : ℕ → Place) (n m : ℕ) → ((k : ℕ) → test (first k) ≡ true) → ((k : ℕ) → k < m → test (second k) ≡ true) → list_all test (both_ranges first n second m) ≡ true
settled-both test first second n m gone kept =
    list_all-append test (map first (range_with_len 0 n)) (map second (range_with_len 0 m))
    ∙ ap₂ (λ a b. a && b)
    (list_all-map test first (range_with_len 0 n) ∙ range-passes (λ k. test (first k)) 0 n (λ k low high. gone k))
    (list_all-map test second (range_with_len 0 m) ∙ range-passes (λ k. test (second k)) 0 m (λ k low high. kept k (lower k m high)))
  where
    lower : (a b : ℕ) → a < 0 + b → a < b
    lower a b = omega arith

-- what no place of a range gives
none-given : {X : Type 0} (gives : Place → Option X) (at : ℕ → Place) (numbers : List ℕ) → ((k : ℕ) → gives (at k) ≡ None) → filter_map gives (map at numbers) ≡ []
none-given gives at [] none = refl
none-given gives at (k ∷ numbers) none = ap (λ o. cons_option o (filter_map gives (map at numbers))) (none k) ∙ none-given gives at numbers none

nothing-given : {X : Type 0} (gives : Place → List X) (at : ℕ → Place) (numbers : List ℕ) → ((k : ℕ) → gives (at k) ≡ []) → flat_map gives (map at numbers) ≡ []
nothing-given gives at [] none = refl
nothing-given gives at (k ∷ numbers) none = ap (λ l. l ++ flat_map gives (map at numbers)) (none k) ∙ nothing-given gives at numbers none

-- the labels of units, by their numbers
labels-by-number : (label : Option Unit → Option Label) (units : List Unit) → label None ≡ None → ((u : Unit) → label (Some u) ≡ Some (label_of u)) →
    filter_map (λ k. label (slice_get units k)) (range_with_len 0 (length units)) ≡ map label_of units
labels-by-number label units none some =
    sym (filter_map-map label (slice_get units) (range_with_len 0 (length units))) ∙ ap (filter_map label) (each-get units) ∙ each units
  where
    each : (us : List Unit) → filter_map label (map (λ u. Some u) us) ≡ map label_of us
    each [] = refl
    each (u ∷ us) = ap (λ o. cons_option o (filter_map label (map (λ v. Some v) us))) (some u) ∙ ap (λ l. label_of u ∷ l) (each us)

-- the bytes of units with the white space after each, by their numbers
bytes-by-number : (units : List Spaced) → flat_map (λ k. option_map_or unit_bytes (slice_get (map (λ s. s.unit) units) k) [] ++ space_at units k) (range_with_len 0 (length units)) ≡ flat_map spaced_bytes units
bytes-by-number units =
    same_each (range_with_len 0 (length units))
    ∙ sym (flat_map-map bytes (slice_get units) (range_with_len 0 (length units))) ∙ ap (flat_map bytes) (each-get units) ∙ each units
  where
    bytes : Option Spaced → Text
    bytes s = option_map_or spaced_bytes s []

    at : (s : Option Spaced) → option_map_or unit_bytes (option_map_or (λ x. Some x.unit) s None) [] ++ option_map_or (λ x. x.space) s [] ≡ option_map_or spaced_bytes s []
    at None = refl
    at (Some s) = refl

    same_each : (ks : List ℕ) → flat_map (λ k. option_map_or unit_bytes (slice_get (map (λ s. s.unit) units) k) [] ++ space_at units k) ks ≡ flat_map (λ k. bytes (slice_get units k)) ks
    same_each [] = refl
    same_each (k ∷ ks) = ap₂ (λ a b. a ++ b) (ap (λ u. option_map_or unit_bytes u [] ++ space_at units k) (get-map (λ s. s.unit) units k) ∙ at (slice_get units k)) (same_each ks)

    each : (ss : List Spaced) → flat_map bytes (map (λ s. Some s) ss) ≡ flat_map spaced_bytes ss
    each [] = refl
    each (s ∷ ss) = ap (λ l. spaced_bytes s ++ l) (each ss)

-- ---- the three cases

all-pass : {X : Type 0} (test : X → Bool) (xs : List X) → ((x : X) → test x ≡ true) → list_all test xs ≡ true
all-pass test [] each = refl
all-pass test (x ∷ xs) each = ap₂ (λ a b. a && b) (each x) (all-pass test xs each)

no_more : (n : ℕ) → nat_le n n ≡ true
no_more n = le-leb n n (least n)
  where
    least : (a : ℕ) → a ≤ a
    least a = omega arith

-- labels of which each is there no more often than in our file, or than in theirs
seldom-ours : (ours theirs : List Unit) (places : List Place) → labels_left ours theirs places ≡ map label_of ours → are_seldom ours theirs places ≡ true
seldom-ours ours theirs places is =
    subst (λ ls. list_all (is_seldom (map label_of ours) (map label_of theirs) ls) ls ≡ true) (sym is)
    (all-pass (is_seldom (map label_of ours) (map label_of theirs) (map label_of ours)) (map label_of ours)
    (λ l. ap (λ b. b || nat_le (count_by (same_label l) (map label_of ours)) (count_by (same_label l) (map label_of theirs))) (no_more (count_by (same_label l) (map label_of ours)))))

seldom-theirs : (ours theirs : List Unit) (places : List Place) → labels_left ours theirs places ≡ map label_of theirs → are_seldom ours theirs places ≡ true
seldom-theirs ours theirs places is =
    subst (λ ls. list_all (is_seldom (map label_of ours) (map label_of theirs) ls) ls ≡ true) (sym is)
    (all-pass (is_seldom (map label_of ours) (map label_of theirs) (map label_of theirs)) (map label_of theirs)
    (λ l. ap (λ b. nat_le (count_by (same_label l) (map label_of theirs)) (count_by (same_label l) (map label_of ours)) || b) (no_more (count_by (same_label l) (map label_of theirs)))
    ∙ or_true (nat_le (count_by (same_label l) (map label_of theirs)) (count_by (same_label l) (map label_of ours)))))

-- the labels of what is left
left-labels : (ours theirs units : List Unit) (first second : ℕ → Place) (n : ℕ) → ((k : ℕ) → label_left (unit_at ours (first k).ours) (unit_at theirs (first k).theirs) (first k).outcome ≡ None)
    → ((k : ℕ) → label_left (unit_at ours (second k).ours) (unit_at theirs (second k).theirs) (second k).outcome ≡ option_map_or (λ u. Some (label_of u)) (slice_get units k) None)
    → labels_left ours theirs (both_ranges first n second (length units)) ≡ map label_of units
left-labels ours theirs units first second n gone kept =
    let left : Place → Option Label = λ p. label_left (unit_at ours p.ours) (unit_at theirs p.theirs) p.outcome in
    filter_map-append left (map first (range_with_len 0 n)) (map second (range_with_len 0 (length units)))
    ∙ ap (λ l. l ++ filter_map left (map second (range_with_len 0 (length units)))) (none-given left first (range_with_len 0 n) gone)
    ∙ filter_map-map left second (range_with_len 0 (length units))
    ∙ each (range_with_len 0 (length units))
    ∙ labels-by-number (λ u. option_map_or (λ v. Some (label_of v)) u None) units refl (λ u. refl)
  where
    each : (ks : List ℕ) → filter_map (λ k. label_left (unit_at ours (second k).ours) (unit_at theirs (second k).theirs) (second k).outcome) ks ≡ filter_map (λ k. option_map_or (λ u. Some (label_of u)) (slice_get units k) None) ks
    each [] = refl
    each (k ∷ ks) = ap₂ (λ o l. cons_option o l) (kept k) (each ks)

-- the bytes of what is left
left-bytes : (ours theirs : List Unit) (db : Reading) (first second : ℕ → Place) (n : ℕ) → ((k : ℕ) → place_bytes ours theirs (first k) ≡ [])
    → ((k : ℕ) → place_bytes ours theirs (second k) ≡ option_map_or unit_bytes (slice_get (units_of db) k) [] ++ space_at (spaced_of db) k)
    → merged_bytes ours theirs (first_space db) (both_ranges first n second (length (units_of db))) ≡ bytes_of db
left-bytes ours theirs db first second n gone kept =
    ap (λ l. first_space db ++ l)
    (flat_map-append (place_bytes ours theirs) (map first (range_with_len 0 n)) (map second (range_with_len 0 (length (units_of db))))
    ∙ ap (λ l. l ++ flat_map (place_bytes ours theirs) (map second (range_with_len 0 (length (units_of db))))) (nothing-given (place_bytes ours theirs) first (range_with_len 0 n) gone)
    ∙ flat_map-map (place_bytes ours theirs) second (range_with_len 0 (length (units_of db)))
    ∙ each (range_with_len 0 (length (units_of db)))
    ∙ ap (λ m. flat_map (λ k. option_map_or unit_bytes (slice_get (units_of db) k) [] ++ space_at (spaced_of db) k) (range_with_len 0 m)) (length-units (spaced_of db))
    ∙ bytes-by-number (spaced_of db))
    ∙ units-are_the_file db
  where
    each : (ks : List ℕ) → flat_map (λ k. place_bytes ours theirs (second k)) ks ≡ flat_map (λ k. option_map_or unit_bytes (slice_get (units_of db) k) [] ++ space_at (spaced_of db) k) ks
    each [] = refl
    each (k ∷ ks) = ap₂ (λ a b. a ++ b) (kept k) (each ks)

-- the bodies of the items of what is left
left-bodies : (ours theirs : List Unit) (db : Reading) (first second : ℕ → Place) (n : ℕ) → ((k : ℕ) → place_bodies ours theirs (first k) ≡ [])
    → ((k : ℕ) → place_bodies ours theirs (second k) ≡ version_bodies (slice_get (units_of db) k)) → merged_bodies ours theirs (both_ranges first n second (length (units_of db))) ≡ bodies_of db
left-bodies ours theirs db first second n gone kept =
    flat_map-append (place_bodies ours theirs) (map first (range_with_len 0 n)) (map second (range_with_len 0 (length (units_of db))))
    ∙ ap (λ l. l ++ flat_map (place_bodies ours theirs) (map second (range_with_len 0 (length (units_of db))))) (nothing-given (place_bodies ours theirs) first (range_with_len 0 n) gone)
    ∙ flat_map-map (place_bodies ours theirs) second (range_with_len 0 (length (units_of db)))
    ∙ each (range_with_len 0 (length (units_of db)))
    ∙ sym (flat_map-map version_bodies (slice_get (units_of db)) (range_with_len 0 (length (units_of db))))
    ∙ ap (flat_map version_bodies) (each-get (units_of db))
    ∙ flat_map-map version_bodies (λ u. Some u) (units_of db)
    ∙ units-have_items db
  where
    each : (ks : List ℕ) → flat_map (λ k. place_bodies ours theirs (second k)) ks ≡ flat_map (λ k. version_bodies (slice_get (units_of db) k)) ks
    each [] = refl
    each (k ∷ ks) = ap₂ (λ a b. a ++ b) (kept k) (each ks)

-- nothing is told of places of which none is told
none-told : (base ours theirs : List Unit) (first second : ℕ → Place) (n m : ℕ) → ((k : ℕ) → conflict_at base ours theirs (first k) ≡ []) → ((k : ℕ) → conflict_at base ours theirs (second k) ≡ [])
    → conflicts_of base ours theirs (both_ranges first n second m) ≡ []
none-told base ours theirs first second n m gone kept =
    flat_map-append (conflict_at base ours theirs) (map first (range_with_len 0 n)) (map second (range_with_len 0 m))
    ∙ ap₂ (λ a b. a ++ b) (nothing-given (conflict_at base ours theirs) first (range_with_len 0 n) gone) (nothing-given (conflict_at base ours theirs) second (range_with_len 0 m) kept)

-- we left the common file: theirs is a merge
pub ours-left : (base theirs : Reading) → IsMergeOf [] base base theirs theirs []
ours-left base theirs =
    let ub = units_of base in
    let ut = units_of theirs in
    let gone : ℕ → Place = λ k. place (Some k) (Some k) None Gone [] in
    let kept : ℕ → Place = λ k. place None None (Some k) Theirs (space_at (spaced_of theirs) k) in
    record {
      places = both_ranges gone (length ub) kept (length ut);
      space = first_space theirs;
      merge = and_from _ _ (and_from _ _ (and_from _ _ (and_from _ _
          (once-first (λ p. p.base) gone kept (length ub) (length ut) (λ k. refl) (λ k. refl))
          (once-first (λ p. p.ours) gone kept (length ub) (length ut) (λ k. refl) (λ k. refl)))
          (once-second (λ p. p.theirs) gone kept (length ub) (length ut) (λ k. refl) (λ k. refl)))
          (settled-both (is_settled [] ub ub ut) gone kept (length ub) (length ut) (λ k. goes (slice_get ub k)) (λ k less. stays (slice_get ut k) (space_at (spaced_of theirs) k) (there ut k less) (space-is_space theirs k))))
          (seldom-theirs ub ut (both_ranges gone (length ub) kept (length ut)) (left-labels ub ut ut gone kept (length ub) (λ k. refl) (λ k. refl)));
      bytes = left-bytes ub ut theirs gone kept (length ub) (λ k. refl) (λ k. refl);
      items = left-bodies ub ut theirs gone kept (length ub) (λ k. refl) (λ k. refl);
      told = none-told ub ub ut gone kept (length ub) (length ut) (λ k. refl) (λ k. refl);
    }
  where
    goes : (u : Option Unit) → (share_label u u && share_label u None && share_label u None && may_come [] u u None Gone && true) ≡ true
    goes None = refl
    goes (Some u) = and_from _ _ (and_from _ _ (and_from _ _ (and_from _ _ (label-same (label_of u)) refl) refl) (ap (λ x. x || false) (unchanged (Some u)))) refl

    stays : (t : Option Unit) (space : Text) → is_some t ≡ true → list_all is_space space ≡ true → (share_label None None && share_label None t && share_label None t && may_come [] None None t Theirs && list_all is_space space) ≡ true
    stays t space some white = and_from _ _ (ap (λ x. x && true) some) white

-- they left the common file: ours is a merge
pub theirs-left : (base ours : Reading) → IsMergeOf [] base ours base ours []
theirs-left base ours =
    let ub = units_of base in
    let uo = units_of ours in
    let gone : ℕ → Place = λ k. place (Some k) None (Some k) Gone [] in
    let kept : ℕ → Place = λ k. place None (Some k) None Ours (space_at (spaced_of ours) k) in
    record {
      places = both_ranges gone (length ub) kept (length uo);
      space = first_space ours;
      merge = and_from _ _ (and_from _ _ (and_from _ _ (and_from _ _
          (once-first (λ p. p.base) gone kept (length ub) (length uo) (λ k. refl) (λ k. refl))
          (once-second (λ p. p.ours) gone kept (length ub) (length uo) (λ k. refl) (λ k. refl)))
          (once-first (λ p. p.theirs) gone kept (length ub) (length uo) (λ k. refl) (λ k. refl)))
          (settled-both (is_settled [] ub uo ub) gone kept (length ub) (length uo) (λ k. goes (slice_get ub k)) (λ k less. stays (slice_get uo k) (space_at (spaced_of ours) k) (there uo k less) (space-is_space ours k))))
          (seldom-ours uo ub (both_ranges gone (length ub) kept (length uo)) (left-labels uo ub uo gone kept (length ub) (λ k. refl) (λ k. refl)));
      bytes = left-bytes uo ub ours gone kept (length ub) (λ k. refl) (λ k. refl);
      items = left-bodies uo ub ours gone kept (length ub) (λ k. refl) (λ k. refl);
      told = none-told ub uo ub gone kept (length ub) (length uo) (λ k. refl) (λ k. refl);
    }
  where
    goes : (u : Option Unit) → (share_label u None && share_label u u && share_label None u && may_come [] u None u Gone && true) ≡ true
    goes None = refl
    goes (Some u) = and_from _ _ (and_from _ _ (and_from _ _ (and_from _ _ refl (label-same (label_of u))) refl) (ap (λ x. (x || false) || false) (unchanged (Some u)))) refl

    stays : (o : Option Unit) (space : Text) → is_some o ≡ true → list_all is_space space ≡ true → (share_label None o && share_label None None && share_label o None && may_come [] None o None Ours && list_all is_space space) ≡ true
    stays o space some white = and_from _ _ (and_from _ _ (none_shares o) (ap (λ x. x && true) some)) white

-- both sides are the same: that file is a merge
pub sides-same : (base side : Reading) → IsMergeOf [] base side side side []
sides-same base side =
    let ub = units_of base in
    let us = units_of side in
    let gone : ℕ → Place = λ k. place (Some k) None None Gone [] in
    let kept : ℕ → Place = λ k. place None (Some k) (Some k) Ours (space_at (spaced_of side) k) in
    record {
      places = both_ranges gone (length ub) kept (length us);
      space = first_space side;
      merge = and_from _ _ (and_from _ _ (and_from _ _ (and_from _ _
          (once-first (λ p. p.base) gone kept (length ub) (length us) (λ k. refl) (λ k. refl))
          (once-second (λ p. p.ours) gone kept (length ub) (length us) (λ k. refl) (λ k. refl)))
          (once-second (λ p. p.theirs) gone kept (length ub) (length us) (λ k. refl) (λ k. refl)))
          (settled-both (is_settled [] ub us us) gone kept (length ub) (length us) (λ k. goes (slice_get ub k)) (λ k less. stays (slice_get us k) (space_at (spaced_of side) k) (there us k less) (space-is_space side k))))
          (seldom-ours us us (both_ranges gone (length ub) kept (length us)) (left-labels us us us gone kept (length ub) (λ k. refl) (λ k. refl)));
      bytes = left-bytes us us side gone kept (length ub) (λ k. refl) (λ k. refl);
      items = left-bodies us us side gone kept (length ub) (λ k. refl) (λ k. refl);
      told = none-told ub us us gone kept (length ub) (length us) (λ k. refl) (λ k. refl);
    }
  where
    goes : (u : Option Unit) → (share_label u None && share_label u None && share_label None None && may_come [] u None None Gone && true) ≡ true
    goes None = refl
    goes (Some u) = refl

    stays : (o : Option Unit) (space : Text) → is_some o ≡ true → list_all is_space space ≡ true → (share_label None o && share_label None o && share_label o o && may_come [] None o o Ours && list_all is_space space) ≡ true
    stays o space some white =
        and_from _ _ (and_from _ _ (shares o) (and_from _ _ some (ap (λ x. is_unchanged None o || x) (unchanged o) ∙ or_true (is_unchanged None o)))) white
