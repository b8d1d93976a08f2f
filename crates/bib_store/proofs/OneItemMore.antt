-- What is said of items, with one item more.
use Rattle.bib_store.proofs.Words.{◌≡◌, ℕ, ◌+◌, ◌≤◌, Bool, true, false, List, [], ◌∷◌, ◌++◌, length, map, filter, nat_lt, Option, Some, None, option_map, ⊎_elim, refl, sym, ◌∙◌, ap, subst, arith, append_assoc, length-append, flat_map, enumerate_from, AllByRecursion, option_or, cases_Bool, cond-true}
use Rattle.bib_store.proofs.Words.{cond-false, none-some, same_Some, filter-append, map-append, Text, comma, equals_sign, Tree, CommentTree, DefinitionTree, PreambleTree, EntryTree, Row, tree_bytes, row_bytes, value_bytes, assignment_bytes, opening_bytes, entry_bytes, after_key_bytes}
use Rattle.bib_store.proofs.Words.{last_comma_bytes, close_byte, item_bytes, Macros, raw_limit, macros_after, macros_at, gathered, raw_texts_from, raw_texts_in, value_places, row_places, bytes_before_value, gathered-append, first_too_long, placed_texts}
use Rattle.std.proofs.Common.{append-nil}
use Rattle.std.specs.Prelude.{find}
use Rattle.std.specs.List.{zip}
use Rattle.std.proofs.lemmas.List.Folds.{find-append}
use Rattle.bib_spec.specs.Reading.{Item}

-- ---- what is gathered

pub gathered-more : {X : Type 0} (say : Macros → Tree → List X) (m : Macros) (items : List Item) (i : Item)
    → gathered say m (items ++ i ∷ []) ≡ gathered say m items ++ say (macros_at m items (length items)) i.tree
gathered-more say m items i = gathered-append say m items (i ∷ []) ∙ ap (λ rest. gathered say m items ++ rest) (append-nil (say (macros_at m items (length items)) i.tree))

-- ---- numbers

enumerate-more : {X : Type 0} (k : ℕ) (xs : List X) (x : X) → enumerate_from k (xs ++ x ∷ []) ≡ enumerate_from k xs ++ (k + length xs, x) ∷ []
enumerate-more k [] x = ap (λ n. (n, x) ∷ []) (omega arith)
enumerate-more k (y ∷ ys) x = ap (λ rest. (k, y) ∷ rest) (enumerate-more (k + 1) ys x ∙ ap (λ (n : ℕ). enumerate_from (k + 1) ys ++ (n, x) ∷ []) (omega arith))

module _ {X : Type 0} (test : X → Bool) where
  abbrev numbers : List X → List ℕ
  numbers xs = map (λ (p : ℕ × X). p.0) (filter (λ (p : ℕ × X). test p.1) (enumerate_from 0 xs))

  numbers-more : (xs : List X) (x : X) → numbers (xs ++ x ∷ []) ≡ numbers xs ++ map (λ (p : ℕ × X). p.0) (filter (λ (p : ℕ × X). test p.1) ((length xs, x) ∷ []))
  numbers-more xs x =
      let passes : ℕ × X → Bool = λ (p : ℕ × X). test p.1 in
      let number : ℕ × X → ℕ = λ (p : ℕ × X). p.0 in
      ap (λ ps. map number (filter passes ps)) (enumerate-more 0 xs x ∙ ap (λ n. enumerate_from 0 xs ++ (n, x) ∷ []) (omega arith))
      ∙ ap (map number) (filter-append passes (enumerate_from 0 xs) ((length xs, x) ∷ []))
      ∙ map-append number (filter passes (enumerate_from 0 xs)) (filter passes ((length xs, x) ∷ []))

  -- an element that passes
  pub number_more : (xs : List X) (x : X) → test x ≡ true → numbers (xs ++ x ∷ []) ≡ numbers xs ++ length xs ∷ []
  number_more xs x e = numbers-more xs x ∙ ap (λ ps. numbers xs ++ map (λ (p : ℕ × X). p.0) ps) (cond-true (test x) ((length xs, x) ∷ []) [] e)

  -- an element that does not
  pub number_same : (xs : List X) (x : X) → test x ≡ false → numbers (xs ++ x ∷ []) ≡ numbers xs
  number_same xs x e =
      numbers-more xs x ∙ ap (λ ps. numbers xs ++ map (λ (p : ℕ × X). p.0) ps) (cond-false (test x) ((length xs, x) ∷ []) [] e) ∙ append-nil (numbers xs)

-- ---- texts that are too long

abbrev long : ℕ × Text → Bool
long p = nat_lt raw_limit (length p.1)

or_mapped : {X Y : Type 0} (f : X → Y) (a b : Option X) → option_map f (option_or a b) ≡ option_or (option_map f a) (option_map f b)
or_mapped f None b = refl
or_mapped f (Some x) b = refl

pub first-append : (xs ys : List (ℕ × Text)) → first_too_long (xs ++ ys) ≡ option_or (first_too_long xs) (first_too_long ys)
first-append xs ys =
    ap (option_map (λ (p : ℕ × Text). p.0)) (find-append long xs ys) ∙ or_mapped (λ (p : ℕ × Text). p.0) (find long xs) (find long ys)

pub first-shift : (at : ℕ) (places : List ℕ) (texts : List Text) → first_too_long (zip (map (λ place. at + place) places) texts) ≡ option_map (λ place. at + place) (first_too_long (zip places texts))
first-shift at [] texts = refl
first-shift at (place ∷ places) [] = refl
first-shift at (place ∷ places) (text ∷ texts) = ⊎_elim
    (λ e. ap (option_map (λ (p : ℕ × Text). p.0)) (cond-true (nat_lt raw_limit (length text)) (Some (at + place, text)) (find long (zip (map (λ place. at + place) places) texts)) e)
    ∙ sym (ap (λ o. option_map (λ place. at + place) (option_map (λ (p : ℕ × Text). p.0) o)) (cond-true (nat_lt raw_limit (length text)) (Some (place, text)) (find long (zip places texts)) e)))
    (λ e. ap (option_map (λ (p : ℕ × Text). p.0)) (cond-false (nat_lt raw_limit (length text)) (Some (at + place, text)) (find long (zip (map (λ place. at + place) places) texts)) e)
    ∙ first-shift at places texts
    ∙ sym (ap (λ o. option_map (λ place. at + place) (option_map (λ (p : ℕ × Text). p.0) o)) (cond-false (nat_lt raw_limit (length text)) (Some (place, text)) (find long (zip places texts)) e)))
    (cases_Bool (nat_lt raw_limit (length text)))

pub raw_texts-append : (at : ℕ) (m : Macros) (items more : List Item)
    → raw_texts_from at m (items ++ more) ≡ raw_texts_from at m items ++ raw_texts_from (at + length (flat_map item_bytes items)) (macros_at m items (length items)) more
raw_texts-append at m [] more = ap (λ n. raw_texts_from n m more) (omega arith)
raw_texts-append at m (item ∷ items) more =
    let here = zip (map (λ place. at + place) (value_places item.tree)) (raw_texts_in m item.tree) in
    let later = raw_texts_from (at + length (item_bytes item)) (macros_after m item.tree) items in
    let place = length-append (item_bytes item) (flat_map item_bytes items) in
    ap (λ rest. here ++ rest) (raw_texts-append (at + length (item_bytes item)) (macros_after m item.tree) items more)
    ∙ ap (λ n. here ++ (later ++ raw_texts_from n (macros_at (macros_after m item.tree) items (length items)) more)) (omega (arith, place))
    ∙ sym (append_assoc here later (raw_texts_from (at + length (flat_map item_bytes (item ∷ items))) (macros_at (macros_after m item.tree) items (length items)) more))

-- ---- places within a tree

abbrev AllWithin : ℕ → List ℕ → Type 0
AllWithin end places = AllByRecursion (λ (place : ℕ). place ≤ end) places

first_within : (end : ℕ) (places : List ℕ) (texts : List Text) (n : ℕ) → AllWithin end places → first_too_long (zip places texts) ≡ Some n → n ≤ end
first_within end [] texts n within e = absurd (none-some n e)
first_within end (place ∷ places) [] n within e = absurd (none-some n e)
first_within end (place ∷ places) (text ∷ texts) n within e = ⊎_elim
    (λ t. let at : place ≡ n = same_Some place n (sym (ap (option_map (λ (p : ℕ × Text). p.0)) (cond-true (nat_lt raw_limit (length text)) (Some (place, text)) (find long (zip places texts)) t)) ∙ e) in
    subst (λ k. k ≤ end) at within.0)
    (λ t. first_within end places texts n within.1 (sym (ap (option_map (λ (p : ℕ × Text). p.0)) (cond-false (nat_lt raw_limit (length text)) (Some (place, text)) (find long (zip places texts)) t)) ∙ e))
    (cases_Bool (nat_lt raw_limit (length text)))

before_value : (sp name sbe sbv v after : Text) (c e : ℕ) → length (c ∷ sp ++ (name ++ (sbe ++ e ∷ sbv))) ≤ length (c ∷ sp ++ (name ++ sbe ++ e ∷ sbv ++ v ++ after))
before_value sp name sbe sbv v after c e = omega (
  arith,
  length-append (c ∷ sp) (name ++ (sbe ++ e ∷ sbv)),
  length-append name (sbe ++ e ∷ sbv),
  length-append sbe (e ∷ sbv),
  length-append (c ∷ sp) (name ++ sbe ++ e ∷ sbv ++ v ++ after),
  length-append (name ++ sbe ++ e ∷ sbv ++ v) after,
  length-append (name ++ sbe ++ e ∷ sbv) v,
  length-append (name ++ sbe) (e ∷ sbv),
  length-append name sbe,
)

rows_within : (end at : ℕ) (rows : List Row) → at + length (flat_map row_bytes rows) ≤ end → AllWithin end (row_places at rows)
rows_within end at [] h = tt
rows_within end at (row ∷ rows) h =
    let a = row.assignment in
    let before = before_value row.space_before_name a.name a.space_before_equals a.space_before_value (value_bytes a.value) a.space_after comma equals_sign in
    let all = length-append (row_bytes row) (flat_map row_bytes rows) in
    (omega (arith, h, before, all), rows_within end (at + length (row_bytes row)) rows (omega (arith, h, all)))

places_within : (tree : Tree) → AllWithin (length (tree_bytes tree)) (value_places tree)
places_within (CommentTree h) = tt
places_within (DefinitionTree d) =
    let a = d.assignment in
    let start = opening_bytes d.opening in
    let rest = equals_sign ∷ a.space_before_value in
    let close = close_byte d.opening.delimiter ∷ [] in (
      omega (
        arith,
        length-append start (bytes_before_value a),
        length-append a.name (a.space_before_equals ++ rest),
        length-append a.space_before_equals rest,
        length-append (start ++ assignment_bytes a) close,
        length-append start (assignment_bytes a),
        length-append (a.name ++ a.space_before_equals ++ rest ++ value_bytes a.value) a.space_after,
        length-append (a.name ++ a.space_before_equals ++ rest) (value_bytes a.value),
        length-append (a.name ++ a.space_before_equals) rest,
        length-append a.name a.space_before_equals,
      ),
      tt,
    )
places_within (PreambleTree p) =
    let start = opening_bytes p.opening in
    let close = close_byte p.opening.delimiter ∷ [] in (
      omega (
        arith,
        length-append (start ++ value_bytes p.value ++ p.space_after) close,
        length-append (start ++ value_bytes p.value) p.space_after,
        length-append start (value_bytes p.value),
      ),
      tt,
    )
places_within (EntryTree e) =
    let start = opening_bytes e.opening in
    let rows = flat_map row_bytes e.rows in
    let last = last_comma_bytes e.last_comma in
    let close = close_byte e.opening.delimiter ∷ [] in
    rows_within (length (entry_bytes e)) (length (start ++ (e.key ++ e.space_after_key))) e.rows (omega (
      arith,
      length-append start (e.key ++ e.space_after_key),
      length-append e.key e.space_after_key,
      length-append (start ++ e.key) (after_key_bytes e),
      length-append start e.key,
      length-append (e.space_after_key ++ rows ++ last) close,
      length-append (e.space_after_key ++ rows) last,
      length-append e.space_after_key rows,
    ))

-- the value of a text that is too long begins in the item
pub too_long_within : (m : Macros) (tree : Tree) (n : ℕ) → first_too_long (placed_texts m tree) ≡ Some n → n ≤ length (tree_bytes tree)
too_long_within m tree n e = first_within (length (tree_bytes tree)) (value_places tree) (raw_texts_in m tree) n (places_within tree) e
