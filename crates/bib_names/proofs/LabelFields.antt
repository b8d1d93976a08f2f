-- Labels are made of some fields alone.
use Rattle.bib_names.proofs.Words.{◌≡◌, ◌∙◌, ◌==◌, length, Bool, true, false, cond, List, [], ◌∷◌, ◌++◌, refl, ap, find, list_any, option_map_or, bytes_eq, false≢true, bytes_eq-Decides, Text, same, RecordField, Fields, text_in, listed_names, letters_of_names, or_anon, label_base}
use Rattle.std.proofs.Common.{filter, Option, Some, codes}
use Rattle.std.specs.Char.{is_ascii_digit}
use Rattle.bib_names.specs.Label.{last_two, label_names}

-- the fields that have one of these names
abbrev pub chosen : List Text → Fields → Fields
chosen names fields = filter (λ field. list_any (same field.0) names) fields

-- what is sought first is not filtered out
pub find_filtered : {X : Type 0} (seek keep : X → Bool) (xs : List X) → ((x : X) → seek x ≡ true → keep x ≡ true) → find seek (filter keep xs) ≡ find seek xs
find_filtered seek keep [] kept = refl
find_filtered {X} seek keep (x ∷ xs) kept = at (keep x) (seek x) refl (kept x) (find_filtered seek keep xs kept)
  where
    at : (k s : Bool) → seek x ≡ s → (s ≡ true → k ≡ true) → find seek (filter keep xs) ≡ find seek xs
        → find seek (cond k (x ∷ filter keep xs) (filter keep xs)) ≡ cond s (Some x) (find seek xs)
    at true s is kept later = ap (λ b. cond b (Some x) (find seek (filter keep xs))) is ∙ ap (cond s (Some x)) later
    at false true is kept later = absurd (false≢true (kept refl))
    at false false is kept later = later

-- the text of a field of one of the names
text_kept : (names : List Text) (name : Text) → list_any (same name) names ≡ true → (fields : Fields) → text_in (chosen names fields) name ≡ text_in fields name
text_kept names name is fields =
    ap (λ (o : Option RecordField). option_map_or (λ field. field.1) o [])
    (find_filtered (λ (f : RecordField). bytes_eq f.0 name) (λ f. list_any (same f.0) names) fields (λ f eq. ap (λ (t : Text). list_any (same t) names) ((bytes_eq-Decides f.0 name).0 eq) ∙ is))

abbrev base_by : Text → Text → Text → Text → Text
base_by author editor key year =
    let authors = listed_names author in
    or_anon (letters_of_names (cond (length authors == 0) (listed_names editor) authors) key) ++ last_two (filter is_ascii_digit year)

pub base_kept : (fields : Fields) → label_base (chosen label_names fields) ≡ label_base fields
base_kept fields = λ i. base_by
    (text_kept label_names (codes "author") refl fields i)
    (text_kept label_names (codes "editor") refl fields i)
    (text_kept label_names (codes "key") refl fields i)
    (text_kept label_names (codes "year") refl fields i)
