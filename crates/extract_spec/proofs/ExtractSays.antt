-- What an extract says: macros that agree on the names in use make the same of it.
use Rattle.std.proofs.Common.{◌≡◌, ℕ, suc, Bool, true, false, not, ◌||◌, List, [], ◌∷◌, ◌++◌, Some, None, unwrap_or, filter, map, ⊎_elim, refl, sym, ◌∙◌, ap, ap₂, subst}
use Rattle.std.specs.List.{flat_map, list_any}
use Rattle.std.specs.Str.{bytes_eq}
use Rattle.std.proofs.lemmas.Bool.{cases_Bool, cond-true, cond-false, false≢true}
use Rattle.std.proofs.lemmas.List.Folds.{list_any-append}
use Rattle.bib_spec.specs.Text.{Text, folded, same}
use Rattle.bib_spec.specs.Tree.{Part, Braced, Quoted, Digits, Macro, Value, Row, Entry, Definition, Tree, CommentTree, DefinitionTree, PreambleTree, EntryTree}
use Rattle.bib_spec.specs.Reading.{Item}
use Rattle.bib_spec.specs.Texts.{Macros, months, updated, part_text, parts_of, raw_text, macros_after, gathered}
use Rattle.bib_spec.specs.Records.{EntryTexts, Field, field_of, texts_of, entry_in, preamble_in}
use Rattle.bib_spec.proofs.Names.{same-true, true-same, same_comm}
use Rattle.extract_spec.specs.Extract.{name_in, names_in, without, without_defined, used_by, names_before, awaited, picked, extract_from, keeps_for}
use Rattle.extract_spec.specs.Laws.{entries_are_picked, preambles_stay}
use Rattle.extract_spec.proofs.ExtractReads.{extract_from-kept, extract_from-left}

-- ---- names in lists

or_true : (b : Bool) → (b || true) ≡ true
or_true true = refl
or_true false = refl

pub in_left : (test : Text → Bool) (xs ys : List Text) → list_any test xs ≡ true → list_any test (xs ++ ys) ≡ true
in_left test xs ys e = list_any-append test xs ys ∙ ap (λ b. b || list_any test ys) e

pub in_right : (test : Text → Bool) (xs ys : List Text) → list_any test ys ≡ true → list_any test (xs ++ ys) ≡ true
in_right test xs ys e = list_any-append test xs ys ∙ ap (λ b. list_any test xs || b) e ∙ or_true (list_any test xs)

-- another name than the one that is left out stays in the list
pub in_without : (left x : Text) (names : List Text) → same left x ≡ false → list_any (same x) names ≡ true → list_any (same x) (without left names) ≡ true
in_without left x [] other e = e
in_without left x (y ∷ names) other e =
    let rest = filter (λ name. not (same left name)) names in ⊎_elim
    (λ out.
    let differs : same x y ≡ false = ⊎_elim
    (λ s. absurd (false≢true (sym other ∙ true-same left x (same-true left y out ∙ sym (same-true x y s)))))
    (λ d. d)
    (cases_Bool (same x y)) in
    ap (list_any (same x)) (cond-false (not (same left y)) (y ∷ rest) rest (ap not out)) ∙ in_without left x names other (sym (ap (λ b. b || list_any (same x) names) differs) ∙ e))
    (λ stay. ap (list_any (same x)) (cond-true (not (same left y)) (y ∷ rest) rest (ap not stay)) ∙ ⊎_elim
    (λ s. ap (λ b. b || list_any (same x) rest) s)
    (λ d. ap (λ b. b || list_any (same x) rest) d ∙ in_without left x names other (sym (ap (λ b. b || list_any (same x) names) d) ∙ e))
    (cases_Bool (same x y)))
    (cases_Bool (same left y))

-- the two tables of macros agree on these names
abbrev pub AgreeOn : List Text → Macros → Macros → Type 0
AgreeOn names m k = (name : Text) → list_any (same name) names ≡ true → k (folded name) ≡ m (folded name)

-- ---- values

part_agrees : (m k : Macros) (part : Part) → AgreeOn (name_in part) m k → part_text k part ≡ part_text m part
part_agrees m k (Braced t) agree = refl
part_agrees m k (Quoted t) agree = refl
part_agrees m k (Digits t) agree = refl
part_agrees m k (Macro name) agree = ap (λ o. unwrap_or o []) (agree name (ap (λ b. b || false) (true-same name name refl)))

parts_agree : (m k : Macros) (parts : List Part) → AgreeOn (flat_map name_in parts) m k → flat_map (part_text k) parts ≡ flat_map (part_text m) parts
parts_agree m k [] agree = refl
parts_agree m k (part ∷ parts) agree = ap₂ ◌++◌
    (part_agrees m k part (λ name e. agree name (in_left (same name) (name_in part) (flat_map name_in parts) e)))
    (parts_agree m k parts (λ name e. agree name (in_right (same name) (name_in part) (flat_map name_in parts) e)))

pub value_agrees : (m k : Macros) (v : Value) → AgreeOn (names_in v) m k → raw_text k v ≡ raw_text m v
value_agrees m k v agree = parts_agree m k (parts_of v) agree

rows_agree : (m k : Macros) (rows : List Row) → AgreeOn (flat_map names_in (map (λ row. row.assignment.value) rows)) m k → map (field_of k) rows ≡ map (field_of m) rows
rows_agree m k [] agree = refl
rows_agree m k (row ∷ rows) agree =
    let v = row.assignment.value in
    let others = flat_map names_in (map (λ row. row.assignment.value) rows) in ap₂ ◌∷◌
    (ap (λ t. let it : Field = record { name = row.assignment.name; raw = t } in it) (value_agrees m k v (λ name e. agree name (in_left (same name) (names_in v) others e))))
    (rows_agree m k rows (λ name e. agree name (in_right (same name) (names_in v) others e)))

pub entry_agrees : (m k : Macros) (e : Entry) → AgreeOn (used_by (EntryTree e)) m k → texts_of k e ≡ texts_of m e
entry_agrees m k e agree =
    ap (λ fields. let it : EntryTexts = record { kind = e.opening.head.type_name; key = e.key; fields = fields } in it) (rows_agree m k e.rows agree)

-- ---- definitions

module _ (d : Definition) (names : List Text) (m k : Macros) where
  own : Text
  own = d.assignment.name

  -- a definition that is kept
  pub defined_agree : AgreeOn (used_by (DefinitionTree d) ++ without_defined (DefinitionTree d) names) m k →
      AgreeOn names (macros_after m (DefinitionTree d)) (macros_after k (DefinitionTree d))
  defined_agree agree x e =
      let used = used_by (DefinitionTree d) in
      let v = d.assignment.value in
      let of_m = updated m d.assignment.name None in
      let of_k = updated k d.assignment.name None in
      let alike : raw_text of_k v ≡ raw_text of_m v = value_agrees of_m of_k v (λ y f. ⊎_elim
      (λ s. cond-true (same y d.assignment.name) None (k (folded y)) s ∙ sym (cond-true (same y d.assignment.name) None (m (folded y)) s))
      (λ o. cond-false (same y d.assignment.name) None (k (folded y)) o
      ∙ agree y (in_left (same y) used (without d.assignment.name names) (in_without d.assignment.name y (names_in v ++ []) (same_comm d.assignment.name y ∙ o) (in_left (same y) (names_in v) [] f)))
      ∙ sym (cond-false (same y d.assignment.name) None (m (folded y)) o))
      (cases_Bool (same y d.assignment.name))) in ⊎_elim
      (λ s. cond-true (same x d.assignment.name) (Some (raw_text of_k v)) (k (folded x)) s ∙ ap Some alike ∙ sym (cond-true (same x d.assignment.name) (Some (raw_text of_m v)) (m (folded x)) s))
      (λ o. cond-false (same x d.assignment.name) (Some (raw_text of_k v)) (k (folded x)) o
      ∙ agree x (in_right (same x) used (without d.assignment.name names) (in_without d.assignment.name x names (same_comm d.assignment.name x ∙ o) e))
      ∙ sym (cond-false (same x d.assignment.name) (Some (raw_text of_m v)) (m (folded x)) o))
      (cases_Bool (same x d.assignment.name))

  -- a definition that is left out
  pub left_agree : list_any (same d.assignment.name) names ≡ false → AgreeOn names m k → AgreeOn names (macros_after m (DefinitionTree d)) k
  left_agree out agree x e =
      let text = Some (raw_text (updated m d.assignment.name None) d.assignment.value) in ⊎_elim
      (λ s. absurd (false≢true (sym out ∙ ap (λ f. list_any (λ y. bytes_eq f (folded y)) names) (sym (same-true x d.assignment.name s)) ∙ e)))
      (λ o. agree x e ∙ sym (cond-false (same x d.assignment.name) text (m (folded x)) o))
      (cases_Bool (same x d.assignment.name))

-- ---- the extract

entry_step : (keeps : ℕ → Bool) (n : ℕ) (m k : Macros) (tree : Tree) (trail : Text) (items : List Item) →
    ((n : ℕ) (m k : Macros) → AgreeOn (awaited keeps n items) m k → gathered entry_in k (extract_from keeps n items) ≡ picked keeps n (gathered entry_in m items)) →
    AgreeOn (awaited keeps n (record { tree = tree; trail = trail } ∷ items)) m k →
    gathered entry_in k (extract_from keeps n (record { tree = tree; trail = trail } ∷ items)) ≡ picked keeps n (gathered entry_in m (record { tree = tree; trail = trail } ∷ items))
entry_step keeps n m k (CommentTree h) trail items rest agree = rest n m k agree
entry_step keeps n m k (PreambleTree p) trail items rest agree =
    rest n m k (λ x e. agree x (in_right (same x) (used_by (PreambleTree p)) (awaited keeps n items) e))
entry_step keeps n m k (EntryTree e) trail items rest agree =
    let names = awaited keeps (suc n) items in
    let item : Item = record { tree = EntryTree e; trail = trail } in
    let others = gathered entry_in m items in ⊎_elim
    (λ h.
    let agreed : AgreeOn (used_by (EntryTree e) ++ names) m k = subst (λ b. AgreeOn (names_before b (EntryTree e) names) m k) h agree in
    ap (gathered entry_in k) (extract_from-kept keeps n item items h)
    ∙ ap₂ ◌∷◌ (entry_agrees m k e (λ x f. agreed x (in_left (same x) (used_by (EntryTree e)) names f)))
    (rest (suc n) m k (λ x f. agreed x (in_right (same x) (used_by (EntryTree e)) names f)))
    ∙ sym (cond-true (keeps n) (texts_of m e ∷ picked keeps (suc n) others) (picked keeps (suc n) others) h))
    (λ h.
    let agreed : AgreeOn names m k = subst (λ b. AgreeOn (names_before b (EntryTree e) names) m k) h agree in
    ap (gathered entry_in k) (extract_from-left keeps n item items h)
    ∙ rest (suc n) m k agreed
    ∙ sym (cond-false (keeps n) (texts_of m e ∷ picked keeps (suc n) others) (picked keeps (suc n) others) h))
    (cases_Bool (keeps n))
entry_step keeps n m k (DefinitionTree d) trail items rest agree =
    let names = awaited keeps n items in
    let item : Item = record { tree = DefinitionTree d; trail = trail } in
    let of_m = macros_after m (DefinitionTree d) in ⊎_elim
    (λ h. ap (gathered entry_in k) (extract_from-kept keeps n item items h)
    ∙ rest n of_m (macros_after k (DefinitionTree d))
    (defined_agree d names m k (subst (λ b. AgreeOn (names_before b (DefinitionTree d) names) m k) h agree)))
    (λ h. ap (gathered entry_in k) (extract_from-left keeps n item items h)
    ∙ rest n of_m k (left_agree d names m k h (subst (λ b. AgreeOn (names_before b (DefinitionTree d) names) m k) h agree)))
    (cases_Bool (list_any (same d.assignment.name) names))

pub entries_picked : (keeps : ℕ → Bool) (items : List Item) (n : ℕ) (m k : Macros) → AgreeOn (awaited keeps n items) m k →
    gathered entry_in k (extract_from keeps n items) ≡ picked keeps n (gathered entry_in m items)
entries_picked keeps [] n m k agree = refl
entries_picked keeps (item ∷ items) n m k agree = entry_step keeps n m k item.tree item.trail items (entries_picked keeps items) agree

preamble_step : (keeps : ℕ → Bool) (n : ℕ) (m k : Macros) (tree : Tree) (trail : Text) (items : List Item) →
    ((n : ℕ) (m k : Macros) → AgreeOn (awaited keeps n items) m k → gathered preamble_in k (extract_from keeps n items) ≡ gathered preamble_in m items) →
    AgreeOn (awaited keeps n (record { tree = tree; trail = trail } ∷ items)) m k →
    gathered preamble_in k (extract_from keeps n (record { tree = tree; trail = trail } ∷ items)) ≡ gathered preamble_in m (record { tree = tree; trail = trail } ∷ items)
preamble_step keeps n m k (CommentTree h) trail items rest agree = rest n m k agree
preamble_step keeps n m k (PreambleTree p) trail items rest agree =
    let names = awaited keeps n items in ap₂ ◌∷◌
    (value_agrees m k p.value (λ x e. agree x (in_left (same x) (names_in p.value ++ []) names (in_left (same x) (names_in p.value) [] e))))
    (rest n m k (λ x e. agree x (in_right (same x) (used_by (PreambleTree p)) names e)))
preamble_step keeps n m k (EntryTree e) trail items rest agree =
    let names = awaited keeps (suc n) items in
    let item : Item = record { tree = EntryTree e; trail = trail } in ⊎_elim
    (λ h.
    let agreed : AgreeOn (used_by (EntryTree e) ++ names) m k = subst (λ b. AgreeOn (names_before b (EntryTree e) names) m k) h agree in
    ap (gathered preamble_in k) (extract_from-kept keeps n item items h)
    ∙ rest (suc n) m k (λ x f. agreed x (in_right (same x) (used_by (EntryTree e)) names f)))
    (λ h. ap (gathered preamble_in k) (extract_from-left keeps n item items h)
    ∙ rest (suc n) m k (subst (λ b. AgreeOn (names_before b (EntryTree e) names) m k) h agree))
    (cases_Bool (keeps n))
preamble_step keeps n m k (DefinitionTree d) trail items rest agree =
    let names = awaited keeps n items in
    let item : Item = record { tree = DefinitionTree d; trail = trail } in
    let of_m = macros_after m (DefinitionTree d) in ⊎_elim
    (λ h. ap (gathered preamble_in k) (extract_from-kept keeps n item items h)
    ∙ rest n of_m (macros_after k (DefinitionTree d))
    (defined_agree d names m k (subst (λ b. AgreeOn (names_before b (DefinitionTree d) names) m k) h agree)))
    (λ h. ap (gathered preamble_in k) (extract_from-left keeps n item items h)
    ∙ rest n of_m k (left_agree d names m k h (subst (λ b. AgreeOn (names_before b (DefinitionTree d) names) m k) h agree)))
    (cases_Bool (list_any (same d.assignment.name) names))

pub preambles_kept : (keeps : ℕ → Bool) (items : List Item) (n : ℕ) (m k : Macros) → AgreeOn (awaited keeps n items) m k →
    gathered preamble_in k (extract_from keeps n items) ≡ gathered preamble_in m items
preambles_kept keeps [] n m k agree = refl
preambles_kept keeps (item ∷ items) n m k agree = preamble_step keeps n m k item.tree item.trail items (preambles_kept keeps items) agree

pub entries-picked : entries_are_picked
entries-picked db keys = entries_picked (keeps_for db keys) db.items 0 months months (λ x e. refl)

pub preambles-stay : preambles_stay
preambles-stay db keys = preambles_kept (keeps_for db keys) db.items 0 months months (λ x e. refl)
