-- Fields of some names, gathered one after another, are those of all that would be gathered.
use Rattle.bib_store.proofs.Words.{◌≡◌, Bool, true, false, not, cond, ◌||◌, List, [], ◌∷◌, ◌++◌, filter, refl, sym, ◌∙◌, ap, map, ⊎_elim, list_any, AllZip, AllByRecursion, cases_Bool, cond-true, cond-false, filter-append, Text, folded, same, Row, Macros, raw_text, RecordField, record_field}
use Rattle.bib_store.proofs.Words.{field_of, crossref, missing, same_of, same-true, OfValue, is_taken, with_field, with_fields, IsReadable, IsFieldOf, chosen}
use Rattle.std.proofs.Common.{append-nil}
use Rattle.std.proofs.lemmas.Bool.{false≢true}
use Rattle.bib_spec.specs.Records.{Field}
use Rattle.bib_scan.specs.View as view
use Rattle.bib_store.specs.Choosing.{is_one_of}
use Rattle.bib_store.proofs.GatheredFields.{same-folded_left}

-- ---- names

one_of_folded : (names : List Text) (name : Text) → is_one_of names (folded name) ≡ is_one_of names name
one_of_folded [] name = refl
one_of_folded (other ∷ names) name =
    ap (λ b. b || is_one_of names (folded name)) (same-folded_left name other) ∙ ap (λ b. same name other || b) (one_of_folded names name)

-- two names that are the same are both among the names, or neither is
one_of_alike : (names : List Text) (a b : Text) → same a b ≡ true → is_one_of names a ≡ is_one_of names b
one_of_alike [] a b alike = refl
one_of_alike (other ∷ names) a b alike =
    ap (λ c. c || is_one_of names a) (same_of a other b other (same-true a b alike) refl) ∙ ap (λ c. same b other || c) (one_of_alike names a b alike)

pub any_mapped : {X Y : Type 0} (test : Y → Bool) (f : X → Y) (xs : List X) → list_any (λ x. test (f x)) xs ≡ list_any test (map f xs)
any_mapped test f [] = refl
any_mapped test f (x ∷ xs) = ap (λ b. test (f x) || b) (any_mapped test f xs)

-- what is looked for is not filtered out
any_filtered : {X : Type 0} (seek keep : X → Bool) (xs : List X) → ((x : X) → seek x ≡ true → keep x ≡ true) → list_any seek (filter keep xs) ≡ list_any seek xs
any_filtered seek keep [] kept = refl
any_filtered {X} seek keep (x ∷ xs) kept = at (keep x) (seek x) refl (kept x) (any_filtered seek keep xs kept)
  where
    at : (k s : Bool) → seek x ≡ s → (s ≡ true → k ≡ true) → list_any seek (filter keep xs) ≡ list_any seek xs
        → list_any seek (cond k (x ∷ filter keep xs) (filter keep xs)) ≡ (s || list_any seek xs)
    at true s is kept later = ap (λ b. b || list_any seek (filter keep xs)) is ∙ ap (λ b. s || b) later
    at false true is kept later = absurd (false≢true (kept refl))
    at false false is kept later = later

-- ---- one field

module _ (names : List Text) (all : List RecordField) (field : Field) where
  split : chosen names (all ++ record_field field ∷ []) ≡ chosen names all ++ chosen names (record_field field ∷ [])
  split = filter-append (λ (f : RecordField). is_one_of names f.0) all (record_field field ∷ [])

  -- one of another name is not added
  pub other_field : is_one_of names field.name ≡ false → chosen names (with_field all field) ≡ chosen names all
  other_field other = ⊎_elim
      (λ taken. ap (chosen names) (cond-true (is_taken all field.name) all (all ++ record_field field ∷ []) taken))
      (λ free. ap (chosen names) (cond-false (is_taken all field.name) all (all ++ record_field field ∷ []) free)
      ∙ split ∙ ap (λ (l : List RecordField). chosen names all ++ l) (cond-false (is_one_of names (folded field.name)) (record_field field ∷ []) [] (one_of_folded names field.name ∙ other))
      ∙ append-nil (chosen names all))
      (cases_Bool (is_taken all field.name))

  taken_kept : is_one_of names field.name ≡ true → is_taken (chosen names all) field.name ≡ is_taken all field.name
  taken_kept wanted =
      ap (λ b. same field.name crossref || b)
      (any_filtered (λ (f : RecordField). same f.0 field.name) (λ f. is_one_of names f.0) all (λ f alike. one_of_alike names f.0 field.name alike ∙ wanted))

  -- one whose name is taken is not added
  pub taken_field : is_one_of names field.name ≡ true → is_taken (chosen names all) field.name ≡ true → chosen names (with_field all field) ≡ chosen names all
  taken_field wanted taken = ap (chosen names) (cond-true (is_taken all field.name) all (all ++ record_field field ∷ []) (sym (taken_kept wanted) ∙ taken))

  -- another is
  pub free_field : is_one_of names field.name ≡ true → is_taken (chosen names all) field.name ≡ false → chosen names (with_field all field) ≡ chosen names all ++ record_field field ∷ []
  free_field wanted free =
      ap (chosen names) (cond-false (is_taken all field.name) all (all ++ record_field field ∷ []) (sym (taken_kept wanted) ∙ free))
      ∙ split ∙ ap (λ (l : List RecordField). chosen names all ++ l) (cond-true (is_one_of names (folded field.name)) (record_field field ∷ []) [] (one_of_folded names field.name ∙ wanted))

-- ---- fields that are inherited

-- one of the fields has this name
abbrev bears : Text → List RecordField → Bool
bears name fields = list_any (λ other. same other.0 name) fields

-- to choose from the missing fields gives what is missing once fields are chosen on both sides
missing_chosen : (names : List Text) (own others : List RecordField) → chosen names (missing own others) ≡ missing (chosen names own) (chosen names others)
missing_chosen names own [] = refl
missing_chosen names own (x ∷ xs) =
    at (is_one_of names x.0) (bears x.0 own) (bears x.0 (chosen names own)) refl refl
    (λ wanted. any_filtered (λ (f : RecordField). same f.0 x.0) (λ f. is_one_of names f.0) own (λ f alike. one_of_alike names f.0 x.0 alike ∙ wanted))
    (missing_chosen names own xs)
  where
    at : (w h k : Bool) → is_one_of names x.0 ≡ w → bears x.0 (chosen names own) ≡ k → (w ≡ true → k ≡ h) → chosen names (missing own xs) ≡ missing (chosen names own) (chosen names xs)
        → chosen names (cond (not h) (x ∷ missing own xs) (missing own xs)) ≡ missing (chosen names own) (cond w (x ∷ chosen names xs) (chosen names xs))
    at false true k is has_is kept further = further
    at false false k is has_is kept further = ap (λ b. cond b (x ∷ chosen names (missing own xs)) (chosen names (missing own xs))) is ∙ further
    at true true k is has_is kept further =
        further ∙ sym (ap (λ b. cond (not b) (x ∷ missing (chosen names own) (chosen names xs)) (missing (chosen names own) (chosen names xs))) (has_is ∙ kept refl))
    at true false k is has_is kept further =
        ap (λ b. cond b (x ∷ chosen names (missing own xs)) (chosen names (missing own xs))) is
        ∙ ap (λ (l : List RecordField). x ∷ l) further
        ∙ sym (ap (λ b. cond (not b) (x ∷ missing (chosen names own) (chosen names xs)) (missing (chosen names own) (chosen names xs))) (has_is ∙ kept refl))

-- what is chosen of own fields and those that are inherited
pub chosen_inherited : (names : List Text) (own others : List RecordField) → chosen names (own ++ missing own others) ≡ chosen names own ++ missing (chosen names own) (chosen names others)
chosen_inherited names own others =
    filter-append (λ (f : RecordField). is_one_of names f.0) own (missing own others) ∙ ap (λ (l : List RecordField). chosen names own ++ l) (missing_chosen names own others)

-- ---- a loop that chooses

-- of the fields gathered from the rows read so far, `fields` has those with these names; `rest` is still to be read
pub record IsChoosing (names : List Text) (macros : Macros) (old fields : List RecordField) (all rest : List view.Field) : Type 0 where
  pub readable : AllByRecursion (IsReadable macros) rest
  pub chosen_so_far : (rows : List Row) → AllZip IsFieldOf all rows → (before : List RecordField) → old ≡ chosen names before →
      (later : List Row) × (gathered : List RecordField) × AllZip IsFieldOf rest later × (fields ≡ chosen names gathered)
      × (with_fields gathered (map (field_of macros) later) ≡ with_fields before (map (field_of macros) rows))

pub choosing_start : (names : List Text) (macros : Macros) (old : List RecordField) (all : List view.Field) → AllByRecursion (IsReadable macros) all → IsChoosing names macros old old all all
choosing_start names macros old all readable = record {
  readable = readable;
  chosen_so_far = λ rows zip before is. (rows, before, zip, is, refl);
}

pub choosing_more : (names : List Text) (macros : Macros) (old fields more : List RecordField) (all rest : List view.Field) (f : view.Field)
    → IsChoosing names macros old fields all (f ∷ rest)
    → OfValue f.value (λ v. (gathered : List RecordField) → fields ≡ chosen names gathered → more ≡ chosen names (with_field gathered (record { name = f.name; raw = raw_text macros v })))
    → IsChoosing names macros old more all rest
choosing_more names macros old fields more all rest f h is = record {
  readable = h.readable.1;
  chosen_so_far = λ rows zip before from. let w = h.chosen_so_far rows zip before from in step rows before w.0 w.1 w.2 w.3 w.4;
}
  where
    step : (rows : List Row) (before : List RecordField) (later : List Row) (gathered : List RecordField) → AllZip IsFieldOf (f ∷ rest) later → fields ≡ chosen names gathered
        → with_fields gathered (map (field_of macros) later) ≡ with_fields before (map (field_of macros) rows)
        → (further : List Row) × (wider : List RecordField) × AllZip IsFieldOf rest further × (more ≡ chosen names wider)
        × (with_fields wider (map (field_of macros) further) ≡ with_fields before (map (field_of macros) rows))
    step rows before [] gathered zip so e = elim zip [ ]
    step rows before (row ∷ further) gathered zip so e = (
      further,
      with_field gathered (field_of macros row),
      zip.1,
      is row.assignment.value zip.0.is zip.0.value gathered so ∙ ap (λ (name : Text). chosen names (with_field gathered (record { name = name; raw = raw_text macros row.assignment.value }))) zip.0.name,
      e,
    )

pub choosing_all : (names : List Text) (macros : Macros) (old fields : List RecordField) (all : List view.Field) → IsChoosing names macros old fields all []
    → (rows : List Row) → AllZip IsFieldOf all rows → (before : List RecordField) → old ≡ chosen names before → fields ≡ chosen names (with_fields before (map (field_of macros) rows))
choosing_all names macros old fields all h rows zip before is = let w = h.chosen_so_far rows zip before is in done w.0 w.1 w.2 w.3 w.4
  where
    done : (later : List Row) (gathered : List RecordField) → AllZip IsFieldOf [] later → fields ≡ chosen names gathered
        → with_fields gathered (map (field_of macros) later) ≡ with_fields before (map (field_of macros) rows) → fields ≡ chosen names (with_fields before (map (field_of macros) rows))
    done [] gathered z so e = so ∙ ap (chosen names) e
    done (_ ∷ _) gathered z so e = elim z [ ]
