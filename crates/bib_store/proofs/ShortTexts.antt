-- In a file that can be opened, no raw text is too long.
use Rattle.bib_store.proofs.Words.{◌≡◌, ℕ, zero, suc, ◌+◌, ◌≤◌, Bool, false, nat_lt, List, [], ◌∷◌, ◌++◌, length, map, Option, Some, None, option_map, ⊎_elim, refl, sym, ◌∙◌, ap, subst, arith, AllByRecursion, cases_Bool, cond-true, cond-false, length-map, none-some, same_Some, Text, folded, Row}
use Rattle.bib_store.proofs.Words.{Tree, CommentTree, DefinitionTree, PreambleTree, EntryTree, row_bytes, Reading, item_bytes, Macros, months, macros_after, macros_at, macros_in, raw_text, raw_texts_in, raw_limit, row_places, value_places, raw_texts_from, too_long_at}
use Rattle.std.proofs.Common.{find, zip, slice_get, bytes_eq}
use Rattle.std.proofs.lemmas.Bool.Decides.{nat_tests}
use Rattle.bib_spec.specs.Reading.{Item}
use Rattle.bib_value.proofs.MonthLemmas.{months_short}
use Rattle.bib_spec.specs.Texts.{values_of}

-- the text is no longer than a raw text may be
abbrev pub IsShort : Text → Type 0
IsShort t = length t ≤ raw_limit

abbrev is_long : ℕ × Text → Bool
is_long p = nat_lt raw_limit (length p.1)

-- an element more would be found
pub find-none : {X : Type 0} (test : X → Bool) (x : X) (xs : List X) → find test (x ∷ xs) ≡ None → (test x ≡ false) × (find test xs ≡ None)
find-none test x xs e = ⊎_elim
    (λ t. absurd (none-some x (sym e ∙ cond-true (test x) (Some x) (find test xs) t)))
    (λ t. (t, sym (cond-false (test x) (Some x) (find test xs) t) ∙ e))
    (cases_Bool (test x))

pub find-none_left : {X : Type 0} (test : X → Bool) (xs ys : List X) → find test (xs ++ ys) ≡ None → find test xs ≡ None
find-none_left test [] ys e = refl
find-none_left test (x ∷ xs) ys e =
    let both = find-none test x (xs ++ ys) e in
    cond-false (test x) (Some x) (find test xs) both.0 ∙ find-none_left test xs ys both.1

pub find-none_right : {X : Type 0} (test : X → Bool) (xs ys : List X) → find test (xs ++ ys) ≡ None → find test ys ≡ None
find-none_right test [] ys e = e
find-none_right test (x ∷ xs) ys e = find-none_right test xs ys (find-none test x (xs ++ ys) e).1

short_one : (t : Text) (place : ℕ) → is_long (place, t) ≡ false → IsShort t
short_one t place e = grind (arith, nat_tests)

none_long : (places : List ℕ) (texts : List Text) → length places ≡ length texts → find is_long (zip places texts) ≡ None → AllByRecursion IsShort texts
none_long places [] same e = tt
none_long [] (t ∷ texts) same e = absurd (omega (arith, same))
none_long (place ∷ places) (t ∷ texts) same e =
    let both = find-none is_long (place, t) (zip places texts) e in
    (short_one t place both.0, none_long places texts (omega (arith, same)) both.1)

length-row_places : (at : ℕ) (rows : List Row) → length (row_places at rows) ≡ length (map (λ (row : Row). row.assignment.value) rows)
length-row_places at [] = refl
length-row_places at (row ∷ rows) = ap suc (length-row_places (at + length (row_bytes row)) rows)

length-value_places : (tree : Tree) → length (value_places tree) ≡ length (values_of tree)
length-value_places (CommentTree h) = refl
length-value_places (DefinitionTree d) = refl
length-value_places (PreambleTree p) = refl
length-value_places (EntryTree e) = length-row_places _ e.rows

places_paired : (at : ℕ) (m : Macros) (tree : Tree) → length (map (λ (place : ℕ). at + place) (value_places tree)) ≡ length (raw_texts_in m tree)
places_paired at m tree =
    length-map (value_places tree) (λ (place : ℕ). at + place) ∙ length-value_places tree ∙ sym (length-map (values_of tree) (raw_text (macros_in m tree)))

texts_from : (at : ℕ) (m : Macros) (items : List Item) → find is_long (raw_texts_from at m items) ≡ None → (n : ℕ) (i : Item) → slice_get items n ≡ Some i →
    AllByRecursion IsShort (raw_texts_in (macros_at m items n) i.tree)
texts_from at m [] e n i s = absurd (none-some i s)
texts_from at m (item ∷ items) e zero i s =
    let first : List (ℕ × Text) = zip (map (λ (place : ℕ). at + place) (value_places item.tree)) (raw_texts_in m item.tree) in
    let none = find-none_left is_long first (raw_texts_from (at + length (item_bytes item)) (macros_after m item.tree) items) e in
    let short = none_long (map (λ (place : ℕ). at + place) (value_places item.tree)) (raw_texts_in m item.tree) (places_paired at m item.tree) none in
    subst (λ (x : Item). AllByRecursion IsShort (raw_texts_in m x.tree)) (same_Some item i s) short
texts_from at m (item ∷ items) e (suc n) i s =
    let first : List (ℕ × Text) = zip (map (λ (place : ℕ). at + place) (value_places item.tree)) (raw_texts_in m item.tree) in
    texts_from (at + length (item_bytes item)) (macros_after m item.tree) items
    (find-none_right is_long first (raw_texts_from (at + length (item_bytes item)) (macros_after m item.tree) items) e) n i s

none_found : (o : Option (ℕ × Text)) → option_map (λ (p : ℕ × Text). p.0) o ≡ None → o ≡ None
none_found None e = refl
none_found (Some p) e = absurd (none-some p.0 (sym e))

-- if no raw text of a file is too long, each text of each item is short
pub texts_short : (db : Reading) → too_long_at db ≡ None → (n : ℕ) (i : Item) → slice_get db.items n ≡ Some i → AllByRecursion IsShort (raw_texts_in (macros_at months db.items n) i.tree)
texts_short db e n i s = texts_from (length db.front) months db.items (none_found (find is_long (raw_texts_from (length db.front) months db.items)) e) n i s

-- what the macros stand for is short
abbrev AreShort : Macros → Type 0
AreShort m = (name t : Text) → m name ≡ Some t → IsShort t

after_short : (m : Macros) (tree : Tree) → AreShort m → AllByRecursion IsShort (raw_texts_in m tree) → AreShort (macros_after m tree)
after_short m (CommentTree h) short texts = short
after_short m (PreambleTree p) short texts = short
after_short m (EntryTree e) short texts = short
after_short m (DefinitionTree d) short texts = λ name t is.
    let raw : Text = raw_text (macros_in m (DefinitionTree d)) d.assignment.value in
    let named : Bool = bytes_eq name (folded d.assignment.name) in
    ⊎_elim
    (λ h. subst IsShort (same_Some raw t (sym (cond-true named (Some raw) (m name) h) ∙ is)) texts.0)
    (λ h. short name t (sym (cond-false named (Some raw) (m name) h) ∙ is))
    (cases_Bool named)

seen_from : (at : ℕ) (m : Macros) (items : List Item) → AreShort m → find is_long (raw_texts_from at m items) ≡ None → (n : ℕ) → AreShort (macros_at m items n)
seen_from at m [] short e zero = short
seen_from at m [] short e (suc n) = short
seen_from at m (item ∷ items) short e zero = short
seen_from at m (item ∷ items) short e (suc n) =
    let first : List (ℕ × Text) = zip (map (λ (place : ℕ). at + place) (value_places item.tree)) (raw_texts_in m item.tree) in
    seen_from (at + length (item_bytes item)) (macros_after m item.tree) items
    (after_short m item.tree short (texts_from at m (item ∷ items) e zero item refl))
    (find-none_right is_long first (raw_texts_from (at + length (item_bytes item)) (macros_after m item.tree) items) e) n

-- nor is what a macro stands for, wherever it is seen
pub seen_short : (db : Reading) → too_long_at db ≡ None → (n : ℕ) (name t : Text) → macros_at months db.items n name ≡ Some t → IsShort t
seen_short db e n name t is =
    seen_from (length db.front) months db.items months_short (none_found (find is_long (raw_texts_from (length db.front) months db.items)) e) n name t is
