-- What fields give to a label, part by part, also of those that inherit from others.
use Rattle.bib_names.proofs.Words.{◌≡◌, ◌∙◌, ◌==◌, length, Bool, true, false, cond, List, [], ◌∷◌, ◌++◌, refl, sym, ap, ap₂, arith, append-nil, find, list_any, option_map_or, option_or, bytes_eq, false≢true, bytes_eq-Decides, Text, same, RecordField, Fields, text_in, listed_names, letters_of_names}
use Rattle.bib_names.proofs.Words.{first_three, or_anon, label_base, LabelParts, base_from, parts_with}
use Rattle.std.proofs.Common.{◌||◌, not, filter, Option, Some, None, codes, ne_eqb}
use Rattle.std.specs.Prelude.{unwrap_or}
use Rattle.std.specs.Option.{option_flatten}
use Rattle.bib_spec.specs.Records.{missing}
use Rattle.bib_spec.proofs.Names.{true-same}
use Rattle.bib_spec.proofs.Missing.{bears_with}
use Rattle.bib_names.specs.LabelParts.{letters_if_any, letters_in, year_digits, parts_of, has_field, given, no_parts}
use Rattle.bib_names.proofs.LabelFields.{find_filtered}

-- ---- letters

some_member : {X : Type 0} (x : X) (xs : List X) → (length (x ∷ xs) == 0) ≡ false
some_member x xs = ne_eqb (length (x ∷ xs)) 0 (λ none. omega (arith, none))

letters_by : (authors editors : List Text) (key : Text) →
    unwrap_or (letters_if_any authors) (unwrap_or (letters_if_any editors) (first_three key)) ≡ letters_of_names (cond (length authors == 0) editors authors) key
letters_by [] [] key = refl
letters_by [] (e ∷ []) key = refl
letters_by [] (e ∷ f ∷ es) key = refl
letters_by (a ∷ []) editors key = refl
letters_by (a ∷ b ∷ more) editors key = ap (λ (none : Bool). letters_of_names (cond none editors (a ∷ b ∷ more)) key) (sym (some_member a (b ∷ more)))

-- ---- what is sought in two lists

find_first : {X : Type 0} (seek : X → Bool) (xs ys : List X) → find seek ys ≡ None → find seek (xs ++ ys) ≡ find seek xs
find_first seek [] ys none = none
find_first seek (x ∷ xs) ys none = ap (cond (seek x) (Some x)) (find_first seek xs ys none)

find_second : {X : Type 0} (seek : X → Bool) (xs ys : List X) → list_any seek xs ≡ false → find seek (xs ++ ys) ≡ find seek ys
find_second seek [] ys out = refl
find_second {X} seek (x ∷ xs) ys out = at (seek x) out (find_second seek xs ys)
  where
    at : (s : Bool) → (s || list_any seek xs) ≡ false → (list_any seek xs ≡ false → find seek (xs ++ ys) ≡ find seek ys) → cond s (Some x) (find seek (xs ++ ys)) ≡ find seek ys
    at true out later = absurd (false≢true (sym out))
    at false out later = later out

-- what is left out is not found
find_dropped : {X : Type 0} (seek keep : X → Bool) (xs : List X) → ((x : X) → seek x ≡ true → keep x ≡ false) → find seek (filter keep xs) ≡ None
find_dropped seek keep [] dropped = refl
find_dropped {X} seek keep (x ∷ xs) dropped = at (keep x) (seek x) refl (dropped x) (find_dropped seek keep xs dropped)
  where
    at : (k s : Bool) → seek x ≡ s → (s ≡ true → k ≡ false) → find seek (filter keep xs) ≡ None → find seek (cond k (x ∷ filter keep xs) (filter keep xs)) ≡ None
    at false s is drops later = later
    at true true is drops later = absurd (false≢true (sym (drops refl)))
    at true false is drops later = ap (λ b. cond b (Some x) (find seek (filter keep xs))) is ∙ later

-- one of them satisfies a test that follows from the first
any_weaker : {X : Type 0} (seek test : X → Bool) (xs : List X) → ((x : X) → seek x ≡ true → test x ≡ true) → list_any test xs ≡ false → list_any seek xs ≡ false
any_weaker seek test [] follows out = refl
any_weaker {X} seek test (x ∷ xs) follows out = at (seek x) (test x) (follows x) out (any_weaker seek test xs follows)
  where
    at : (s t : Bool) → (s ≡ true → t ≡ true) → (t || list_any test xs) ≡ false → (list_any test xs ≡ false → list_any seek xs ≡ false) → (s || list_any seek xs) ≡ false
    at s true f out later = absurd (false≢true (sym out))
    at true false f out later = absurd (false≢true (f refl))
    at false false f out later = later out

-- ---- texts that are given

module _ (own : Fields) (name : Text) where
  abbrev seeks : RecordField → Bool
  seeks field = bytes_eq field.0 name

  exact : (field : RecordField) → seeks field ≡ true → field.0 ≡ name
  exact field is = (bytes_eq-Decides field.0 name).0 is

  named : (field : RecordField) → seeks field ≡ true → same field.0 name ≡ true
  named field is = ap (λ (t : Text). same t name) (exact field is) ∙ true-same name name refl

  -- without such a field there is no text
  text_none : has_field own name ≡ false → text_in own name ≡ []
  text_none has = ap (λ (o : Option RecordField). option_map_or (λ field. field.1) o [])
      (sym (ap (find seeks) (append-nil own)) ∙ find_second seeks own [] (any_weaker seeks (λ other. same other.0 name) own named has))

  text_owned : (others : Fields) → has_field own name ≡ true → text_in (own ++ missing own others) name ≡ text_in own name
  text_owned others has = ap (λ (o : Option RecordField). option_map_or (λ field. field.1) o [])
      (find_first seeks own (missing own others)
      (find_dropped seeks (λ field. not (has_field own field.0)) others (λ field is. ap (λ (t : Text). not (has_field own t)) (exact field is) ∙ ap not has)))

  text_inherited : (others : Fields) → has_field own name ≡ false → text_in (own ++ missing own others) name ≡ text_in others name
  text_inherited others has = ap (λ (o : Option RecordField). option_map_or (λ field. field.1) o [])
      (find_second seeks own (missing own others) (any_weaker seeks (λ other. same other.0 name) own named has)
      ∙ find_filtered seeks (λ field. not (has_field own field.0)) others (λ field is. ap (λ (t : Text). not (has_field own t)) (exact field is) ∙ ap not has))

  -- what the field of this name gives in a record with what it inherits
  pub given_with : {X : Type 0} (give : Text → X) (others : Fields) → given give (own ++ missing own others) name ≡ option_or (given give own name) (given give others name)
  given_with {X} give others = at (has_field own name) refl
    where
      whole : Fields
      whole = own ++ missing own others

      at : (b : Bool) → has_field own name ≡ b → given give whole name ≡ option_or (cond b (Some (give (text_in own name))) None) (given give others name)
      at true has =
          ap (λ b. cond b (Some (give (text_in whole name))) None) (bears_with own others name ∙ ap (λ b. b || has_field others name) has)
          ∙ ap (λ (t : Text). Some (give t)) (text_owned others has)
      at false has =
          ap (λ b. cond b (Some (give (text_in whole name))) None) (bears_with own others name ∙ ap (λ b. b || has_field others name) has)
          ∙ ap (λ (t : Text). cond (has_field others name) (Some (give t)) None) (text_inherited others has)

  -- what a text gives, where no text gives nothing
  letters_given : option_flatten (given letters_in own name) ≡ letters_in (text_in own name)
  letters_given = at (has_field own name) refl
    where
      at : (b : Bool) → has_field own name ≡ b → option_flatten (cond b (Some (letters_in (text_in own name))) None) ≡ letters_in (text_in own name)
      at true has = refl
      at false has = sym (ap letters_in (text_none has))

  text_given : (give : Text → Text) → give [] ≡ [] → unwrap_or (given give own name) [] ≡ give (text_in own name)
  text_given give none = at (has_field own name) refl
    where
      at : (b : Bool) → has_field own name ≡ b → unwrap_or (cond b (Some (give (text_in own name))) None) [] ≡ give (text_in own name)
      at true has = refl
      at false has = sym (ap give (text_none has) ∙ none)

-- ---- label bases

abbrev base_by : Option Text → Option Text → Text → Text → Text
base_by author editor key year = or_anon (unwrap_or author (unwrap_or editor key)) ++ year

-- the label base from what the fields give
pub base_of_parts : (fields : Fields) → base_from (parts_of fields) ≡ label_base fields
base_of_parts fields =
    ap₂ (λ (a e : Option Text). base_by a e (unwrap_or (given first_three fields (codes "key")) []) (unwrap_or (given year_digits fields (codes "year")) []))
    (letters_given fields (codes "author")) (letters_given fields (codes "editor"))
    ∙ ap₂ (base_by (letters_in (text_in fields (codes "author"))) (letters_in (text_in fields (codes "editor"))))
    (text_given fields (codes "key") first_three refl) (text_given fields (codes "year") year_digits refl)
    ∙ ap (λ (t : Text). or_anon t ++ year_digits (text_in fields (codes "year")))
    (letters_by (listed_names (text_in fields (codes "author"))) (listed_names (text_in fields (codes "editor"))) (text_in fields (codes "key")))

abbrev made : Option (Option Text) → Option (Option Text) → Option Text → Option Text → LabelParts
made author editor key year = record { author = author; editor = editor; key = key; year = year }

-- what the fields of a record give with what it inherits
pub parts_inherited : (own others : Fields) → parts_of (own ++ missing own others) ≡ parts_with (parts_of own) (parts_of others)
parts_inherited own others = λ i. made
    (given_with own (codes "author") letters_in others i)
    (given_with own (codes "editor") letters_in others i)
    (given_with own (codes "key") first_three others i)
    (given_with own (codes "year") year_digits others i)

-- ---- parts that are joined

or_none : {X : Type 0} (o : Option X) → option_or o None ≡ o
or_none None = refl
or_none (Some x) = refl

or_assoc : {X : Type 0} (a b c : Option X) → option_or (option_or a b) c ≡ option_or a (option_or b c)
or_assoc None b c = refl
or_assoc (Some x) b c = refl

pub parts_alone : (parts : LabelParts) → parts_with parts no_parts ≡ parts
parts_alone parts = λ i. made (or_none parts.author i) (or_none parts.editor i) (or_none parts.key i) (or_none parts.year i)

pub parts_further : (a b c : LabelParts) → parts_with (parts_with a b) c ≡ parts_with a (parts_with b c)
parts_further a b c = λ i. made
    (or_assoc a.author b.author c.author i) (or_assoc a.editor b.editor c.editor i) (or_assoc a.key b.key c.key i) (or_assoc a.year b.year c.year i)

-- the label base of a record that inherits nothing
pub base_alone : (fields : Fields) (inherited : LabelParts) → inherited ≡ no_parts → base_from (parts_with (parts_of fields) inherited) ≡ label_base fields
base_alone fields inherited is =
    ap (λ (p : LabelParts). base_from (parts_with (parts_of fields) p)) is ∙ ap base_from (parts_alone (parts_of fields)) ∙ base_of_parts fields
