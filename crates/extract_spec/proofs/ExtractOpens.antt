-- Uses and raw texts stay in an extract, which therefore can be opened.
use Rattle.std.proofs.Common.{◌≡◌, ℕ, suc, ◌+◌, ◌≤◌, Bool, true, false, ◌||◌, nat_lt, ◌==◌, List, [], ◌∷◌, ◌++◌, Some, None, option_map, length, find, map, zip, ⊎_elim, refl, sym, ◌∙◌, ap, ap₂, subst, arith, length-append}
use Rattle.std.specs.List.{flat_map, list_any, take_while}
use Rattle.std.proofs.lemmas.Bool.{cases_Bool, cond-true, cond-false, false≢true}
use Rattle.std.proofs.lemmas.List.Folds.{list_any-append}
use Rattle.std.proofs.lemmas.List.Sums.{take_while-cons}
use Rattle.std.proofs.lemmas.List.{length-map}
use Rattle.std.proofs.lemmas.Option.{none-some}
use Rattle.bib_spec.specs.Bytes.{line_feed}
use Rattle.bib_spec.specs.Text.{Text, is_space, folded, same}
use Rattle.bib_spec.specs.Tree.{Row, Tree, CommentTree, DefinitionTree, PreambleTree, EntryTree, tree_bytes, row_bytes}
use Rattle.bib_spec.specs.Reading.{Item, item_bytes}
use Rattle.bib_spec.specs.Texts.{Macros, months, updated, macros_in, macros_after, raw_text, raw_texts_in, raw_texts_from, raw_limit, values_of, value_places, row_places}
use Rattle.bib_spec.proofs.Names.{same_comm, true-same}
use Rattle.extract_spec.specs.Extract.{names_in, without_defined, used_by, number_after, names_before, awaited, kept_from, marked, space_of, on_its_line, extract_from, extract_of, keeps_for, kept}
use Rattle.extract_spec.specs.Laws.{said_from, uses_of, uses_stay, raw_texts_stay, extract_opens, extract_length}
use Rattle.extract_spec.proofs.ExtractReads.{extract_from-kept, extract_from-left, extract-reads}
use Rattle.extract_spec.proofs.ExtractSays.{AgreeOn, in_left, in_right, in_without, value_agrees, defined_agree, left_agree}

-- ---- what depends on the names in use alone

module _ {X : Type 0} (say : Macros → Tree → X) (alike : (m k : Macros) (tree : Tree) → AgreeOn (used_by tree) m k → say k tree ≡ say m tree) where
  -- one item, if what is said of those after it stays
  said_step : (keeps : ℕ → Bool) (n : ℕ) (m k : Macros) (tree : Tree) (trail : Text) (items : List Item) →
      ((m k : Macros) → AgreeOn (awaited keeps (number_after n tree) items) m k →
      said_from say k (extract_from keeps (number_after n tree) items) ≡ marked (kept_from keeps (number_after n tree) items) (said_from say m items)) →
      AgreeOn (awaited keeps n (record { tree = tree; trail = trail } ∷ items)) m k →
      said_from say k (extract_from keeps n (record { tree = tree; trail = trail } ∷ items))
      ≡ marked (kept_from keeps n (record { tree = tree; trail = trail } ∷ items)) (said_from say m (record { tree = tree; trail = trail } ∷ items))
  said_step keeps n m k (CommentTree h) trail items rest agree = rest m k agree
  said_step keeps n m k (PreambleTree p) trail items rest agree =
      let names = awaited keeps n items in
      ap₂ ◌∷◌ (alike m k (PreambleTree p) (λ x e. agree x (in_left (same x) (used_by (PreambleTree p)) names e)))
      (rest m k (λ x e. agree x (in_right (same x) (used_by (PreambleTree p)) names e)))
  said_step keeps n m k (EntryTree e) trail items rest agree =
      let names = awaited keeps (suc n) items in
      let item : Item = record { tree = EntryTree e; trail = trail } in
      let ms = kept_from keeps (suc n) items in
      let others = said_from say m items in ⊎_elim
      (λ h.
      let agreed : AgreeOn (used_by (EntryTree e) ++ names) m k = subst (λ b. AgreeOn (names_before b (EntryTree e) names) m k) h agree in
      ap (said_from say k) (extract_from-kept keeps n item items h)
      ∙ ap₂ ◌∷◌ (alike m k (EntryTree e) (λ x f. agreed x (in_left (same x) (used_by (EntryTree e)) names f)))
      (rest m k (λ x f. agreed x (in_right (same x) (used_by (EntryTree e)) names f)))
      ∙ sym (ap (λ b. marked (b ∷ ms) (say m (EntryTree e) ∷ others)) h))
      (λ h. ap (said_from say k) (extract_from-left keeps n item items h)
      ∙ rest m k (subst (λ b. AgreeOn (names_before b (EntryTree e) names) m k) h agree)
      ∙ sym (ap (λ b. marked (b ∷ ms) (say m (EntryTree e) ∷ others)) h))
      (cases_Bool (keeps n))
  said_step keeps n m k (DefinitionTree d) trail items rest agree =
      let names = awaited keeps n items in
      let item : Item = record { tree = DefinitionTree d; trail = trail } in
      let of_m = macros_after m (DefinitionTree d) in
      let ms = kept_from keeps n items in
      let others = said_from say of_m items in ⊎_elim
      (λ h.
      let agreed : AgreeOn (used_by (DefinitionTree d) ++ without_defined (DefinitionTree d) names) m k = subst (λ b. AgreeOn (names_before b (DefinitionTree d) names) m k) h agree in
      ap (said_from say k) (extract_from-kept keeps n item items h)
      ∙ ap₂ ◌∷◌ (alike m k (DefinitionTree d) (λ x f. agreed x (in_left (same x) (used_by (DefinitionTree d)) (without_defined (DefinitionTree d) names) f)))
      (rest of_m (macros_after k (DefinitionTree d)) (defined_agree d names m k agreed))
      ∙ sym (ap (λ b. marked (b ∷ ms) (say m (DefinitionTree d) ∷ others)) h))
      (λ h. ap (said_from say k) (extract_from-left keeps n item items h)
      ∙ rest of_m k (left_agree d names m k h (subst (λ b. AgreeOn (names_before b (DefinitionTree d) names) m k) h agree))
      ∙ sym (ap (λ b. marked (b ∷ ms) (say m (DefinitionTree d) ∷ others)) h))
      (cases_Bool (list_any (same d.assignment.name) names))

  said_kept : (keeps : ℕ → Bool) (items : List Item) (n : ℕ) (m k : Macros) → AgreeOn (awaited keeps n items) m k →
      said_from say k (extract_from keeps n items) ≡ marked (kept_from keeps n items) (said_from say m items)
  said_kept keeps [] n m k agree = refl
  said_kept keeps (item ∷ items) n m k agree = said_step keeps n m k item.tree item.trail items (said_kept keeps items (number_after n item.tree)) agree

-- ---- uses

names_alike : (m k : Macros) (names : List Text) → AgreeOn names m k → map (λ (name : Text). k (folded name)) names ≡ map (λ (name : Text). m (folded name)) names
names_alike m k [] agree = refl
names_alike m k (name ∷ names) agree = ap₂ ◌∷◌
    (agree name (ap (λ b. b || list_any (same name) names) (own_same name)))
    (names_alike m k names (λ x e. agree x (ap (λ b. same x name || b) e ∙ or_true (same x name))))
  where
    or_true : (b : Bool) → (b || true) ≡ true
    or_true true = refl
    or_true false = refl

    own_same : (name : Text) → same name name ≡ true
    own_same name = true-same name name refl

pub uses-stay : uses_stay
uses-stay db keys = said_kept uses_of (λ m k tree agree. names_alike m k (used_by tree) agree) (keeps_for db keys) db.items 0 months months (λ x e. refl)

-- ---- raw texts

rows_alike : (m k : Macros) (rows : List Row) → AgreeOn (flat_map names_in (map (λ row. row.assignment.value) rows)) m k →
    map (raw_text k) (map (λ (row : Row). row.assignment.value) rows) ≡ map (raw_text m) (map (λ (row : Row). row.assignment.value) rows)
rows_alike m k [] agree = refl
rows_alike m k (row ∷ rows) agree =
    let v = row.assignment.value in
    let others = flat_map names_in (map (λ row. row.assignment.value) rows) in ap₂ ◌∷◌
    (value_agrees m k v (λ x e. agree x (in_left (same x) (names_in v) others e)))
    (rows_alike m k rows (λ x e. agree x (in_right (same x) (names_in v) others e)))

texts_alike : (m k : Macros) (tree : Tree) → AgreeOn (used_by tree) m k → raw_texts_in k tree ≡ raw_texts_in m tree
texts_alike m k (CommentTree h) agree = refl
texts_alike m k (PreambleTree p) agree = ap (λ t. t ∷ []) (value_agrees m k p.value (λ x e. agree x (in_left (same x) (names_in p.value) [] e)))
texts_alike m k (EntryTree e) agree = rows_alike m k e.rows agree
texts_alike m k (DefinitionTree d) agree =
    let name = d.assignment.name in
    ap (λ t. t ∷ []) (value_agrees (updated m name None) (updated k name None) d.assignment.value (λ y f. ⊎_elim
    (λ s. cond-true (same y name) None (k (folded y)) s ∙ sym (cond-true (same y name) None (m (folded y)) s))
    (λ o. cond-false (same y name) None (k (folded y)) o
    ∙ agree y (in_without name y (names_in d.assignment.value ++ []) (same_comm name y ∙ o) (in_left (same y) (names_in d.assignment.value) [] f))
    ∙ sym (cond-false (same y name) None (m (folded y)) o))
    (cases_Bool (same y name))))

pub raw_texts-stay : raw_texts_stay
raw_texts-stay db keys = said_kept raw_texts_in texts_alike (keeps_for db keys) db.items 0 months months (λ x e. refl)

-- ---- texts that are too long

abbrev placed_long : ℕ × Text → Bool
placed_long p = nat_lt raw_limit (length p.1)

-- nothing is found where no member passes
find_none : (xs : List (ℕ × Text)) → list_any placed_long xs ≡ false → option_map (λ (p : ℕ × Text). p.0) (find placed_long xs) ≡ None
find_none [] e = refl
find_none (x ∷ xs) e = ⊎_elim
    (λ t. absurd (false≢true (sym e ∙ ap (λ b. b || list_any placed_long xs) t)))
    (λ f. ap (option_map (λ (p : ℕ × Text). p.0)) (cond-false (placed_long x) (Some x) (find placed_long xs) f) ∙ find_none xs (sym (ap (λ b. b || list_any placed_long xs) f) ∙ e))
    (cases_Bool (placed_long x))

none_found : (xs : List (ℕ × Text)) → option_map (λ (p : ℕ × Text). p.0) (find placed_long xs) ≡ None → list_any placed_long xs ≡ false
none_found [] e = refl
none_found (x ∷ xs) e = ⊎_elim
    (λ t. absurd (none-some x.0 (sym e ∙ ap (option_map (λ (p : ℕ × Text). p.0)) (cond-true (placed_long x) (Some x) (find placed_long xs) t))))
    (λ f. ap (λ b. b || list_any placed_long xs) f ∙ none_found xs (sym (ap (option_map (λ (p : ℕ × Text). p.0)) (cond-false (placed_long x) (Some x) (find placed_long xs) f)) ∙ e))
    (cases_Bool (placed_long x))

long_in_zip : (places : List ℕ) (texts : List Text) → length places ≡ length texts → list_any placed_long (zip places texts) ≡ list_any (λ t. nat_lt raw_limit (length t)) texts
long_in_zip [] [] e = refl
long_in_zip [] (t ∷ texts) e = cc
long_in_zip (p ∷ places) [] e = cc
long_in_zip (p ∷ places) (t ∷ texts) e = ap (λ b. nat_lt raw_limit (length t) || b) (long_in_zip places texts (omega (arith, e)))

rows_counted : (at : ℕ) (rows : List Row) → length (row_places at rows) ≡ length rows
rows_counted at [] = refl
rows_counted at (row ∷ rows) = ap suc (rows_counted (at + length (row_bytes row)) rows)

places_counted : (at : ℕ) (m : Macros) (tree : Tree) → length (map (λ (place : ℕ). at + place) (value_places tree)) ≡ length (raw_texts_in m tree)
places_counted at m tree = length-map (value_places tree) (λ (place : ℕ). at + place) ∙ counted tree ∙ sym (length-map (values_of tree) (raw_text (macros_in m tree)))
  where
    counted : (tree : Tree) → length (value_places tree) ≡ length (values_of tree)
    counted (CommentTree h) = refl
    counted (DefinitionTree d) = refl
    counted (PreambleTree p) = refl
    counted (EntryTree e) = rows_counted _ e.rows ∙ sym (length-map e.rows (λ (row : Row). row.assignment.value))

abbrev have_long : List Text → Bool
have_long texts = list_any (λ t. nat_lt raw_limit (length t)) texts

long_from : (at : ℕ) (m : Macros) (items : List Item) → list_any placed_long (raw_texts_from at m items) ≡ list_any have_long (said_from raw_texts_in m items)
long_from at m [] = refl
long_from at m (item ∷ items) =
    list_any-append placed_long (zip (map (λ (place : ℕ). at + place) (value_places item.tree)) (raw_texts_in m item.tree)) (raw_texts_from (at + length (item_bytes item)) (macros_after m item.tree) items)
    ∙ ap₂ ◌||◌ (long_in_zip (map (λ (place : ℕ). at + place) (value_places item.tree)) (raw_texts_in m item.tree) (places_counted at m item.tree)) (long_from (at + length (item_bytes item)) (macros_after m item.tree) items)

-- what no member has, no marked member has
any_marked : (marks : List Bool) (xs : List (List Text)) → list_any have_long xs ≡ false → list_any have_long (marked marks xs) ≡ false
any_marked [] xs e = refl
any_marked (mark ∷ marks) [] e = refl
any_marked (true ∷ marks) (x ∷ xs) e = let both = or_none (have_long x) (list_any have_long xs) e in ap (λ b. b || list_any have_long (marked marks xs)) both.0 ∙ any_marked marks xs both.1
  where
    or_none : (a b : Bool) → (a || b) ≡ false → (a ≡ false) × (b ≡ false)
    or_none true b h = absurd (false≢true (sym h))
    or_none false b h = (refl, h)
any_marked (false ∷ marks) (x ∷ xs) e = any_marked marks xs (or_none (have_long x) (list_any have_long xs) e)
  where
    or_none : (a b : Bool) → (a || b) ≡ false → b ≡ false
    or_none true b h = absurd (false≢true (sym h))
    or_none false b h = h

pub extract-opens : extract_opens
extract-opens file db keys opens short = record {
  reads = extract-reads file db keys opens.reads;
  short = short;
  texts = find_none (raw_texts_from 0 months (extract_of db keys).items)
      (long_from 0 months (extract_of db keys).items ∙ ap (list_any have_long) (raw_texts-stay db keys)
      ∙ any_marked (kept db keys) (said_from raw_texts_in months db.items)
      (sym (long_from (length db.front) months db.items) ∙ none_found (raw_texts_from (length db.front) months db.items) opens.texts));
}

-- ---- the length

space_short : (t : Text) → length (take_while is_space t) ≤ length t
space_short [] = omega arith
space_short (b ∷ t) = ⊎_elim
    (λ e. let less = space_short t in let is = ap (length {A = ℕ}) (take_while-cons is_space b t ∙ cond-true (is_space b) (b ∷ take_while is_space t) [] e) in omega (arith, less, is))
    (λ e. let is = ap (length {A = ℕ}) (take_while-cons is_space b t ∙ cond-false (is_space b) (b ∷ take_while is_space t) [] e) in omega (arith, is))
    (cases_Bool (is_space b))

line_short : (t : Text) → length (space_of t) ≤ length t + 1
line_short t = ⊎_elim
    (λ e. let less = space_short t in let is = ap (length {A = ℕ}) (cond-true (list_any (λ b. b == line_feed) (take_while is_space t)) (take_while is_space t) (line_feed ∷ []) e) in omega (arith, less, is))
    (λ e. let is = ap (length {A = ℕ}) (cond-false (list_any (λ b. b == line_feed) (take_while is_space t)) (take_while is_space t) (line_feed ∷ []) e) in omega (arith, is))
    (cases_Bool (list_any (λ b. b == line_feed) (take_while is_space t)))

marked_short : (marks : List Bool) (items : List Item) → length (flat_map item_bytes (map on_its_line (marked marks items))) ≤ length (flat_map item_bytes items) + length items
marked_short [] items = omega arith
marked_short (mark ∷ marks) [] = omega arith
marked_short (true ∷ marks) (item ∷ items) =
    let rest = marked_short marks items in
    let line = line_short item.trail in
    let a = length-append (tree_bytes item.tree ++ space_of item.trail) (flat_map item_bytes (map on_its_line (marked marks items))) in
    let b = length-append (tree_bytes item.tree) (space_of item.trail) in
    let c = length-append (item_bytes item) (flat_map item_bytes items) in
    let d = length-append (tree_bytes item.tree) item.trail in
    omega (arith, rest, line, a, b, c, d)
marked_short (false ∷ marks) (item ∷ items) =
    let rest = marked_short marks items in
    let c = length-append (item_bytes item) (flat_map item_bytes items) in
    omega (arith, rest, c)

pub extract-length : extract_length
extract-length db keys =
    let part = marked_short (kept db keys) db.items in
    let whole = length-append db.front (flat_map item_bytes db.items) in
    omega (arith, part, whole)
