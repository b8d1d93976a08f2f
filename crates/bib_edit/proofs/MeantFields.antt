-- The field that is meant by its number among those that have its name, found on the way through the fields.
use Rattle.bib_edit.proofs.Words.{◌≡◌, ℕ, zero, suc, ◌+◌, ◌≤◌, ◌<◌, ◌&&◌, ◌||◌, ◌++◌, Bool, true, false, List, [], ◌∷◌, Option, Some, None, is_some, find, count_by, option_map, ⊎_elim, refl, sym, ◌∙◌, ap, arith, cases_Bool, cond-true, cond-false, none-some, true≢false, if◌then◌else◌, Text, Field, field_seen, is_field, count-yes, count-no, opening_bytes, Reading, months, macros_at, has_name, texts_of, fields_after}
use Rattle.std.proofs.Common.{unwrap_or}
use Rattle.edit_spec.specs.Edits.{Which, number_of, is_unclear}
use Rattle.bib_scan.specs.declared.fields.FieldView.{FieldView}
use Rattle.bib_edit.specs.declared.numbers.Which.{Which as Meant}
use Rattle.bib_edit.specs.declared.one_entry.MeantField.{MeantField}
use Rattle.bib_edit.specs.Numbers.{which_seen}
use Rattle.bib_edit.specs.MeantFields.{nth_field, field_meant, IsMeantField, is_lacking}
use Rattle.bib_edit.proofs.MeantTexts.{IsMeantEntry}
use Rattle.bib_edit.proofs.SettingPieces.{count-fields}

module _ (name : Text) where
  pub nth-first : (fields : List Field) → nth_field name 0 fields ≡ find (is_field name) fields
  nth-first [] = refl
  nth-first (field ∷ fields) = ap (λ (o : Option Field). if is_field name field then Some field else o) (nth-first fields)

  -- ---- on the way through the fields

  pub nth-here : (k : ℕ) (field : Field) (fields : List Field) → k ≡ 0 → is_field name field ≡ true → nth_field name k (field ∷ fields) ≡ Some field
  nth-here k field fields first is = ap (λ k. nth_field name k (field ∷ fields)) first ∙ cond-true (is_field name field) (Some field) (nth_field name 0 fields) is

  pub nth-counted : (k left : ℕ) (field : Field) (fields : List Field) → k ≡ suc left → is_field name field ≡ true → nth_field name k (field ∷ fields) ≡ nth_field name left fields
  nth-counted k left field fields one_more is =
      ap (λ k. nth_field name k (field ∷ fields)) one_more ∙ ap (λ b. nth_field name (if b then left else suc left) fields) is

  pub nth-passed : (k : ℕ) (field : Field) (fields : List Field) → is_field name field ≡ false → nth_field name k (field ∷ fields) ≡ nth_field name k fields
  nth-passed zero field fields other = cond-false (is_field name field) (Some field) (nth_field name 0 fields) other
  nth-passed (suc k) field fields other = ap (λ b. nth_field name (if b then k else suc k) fields) other

  -- ---- how many have the name

  pub few-named : (k : ℕ) (fields : List Field) → nth_field name k fields ≡ None → count_by (is_field name) fields ≤ k
  few-named k [] none = omega arith
  few-named zero (field ∷ fields) none = ⊎_elim
      (λ t. absurd (none-some field (sym none ∙ nth-here 0 field fields refl t)))
      (λ t. let count = count-no (is_field name) field fields t in let rest = few-named zero fields (sym (nth-passed zero field fields t) ∙ none) in omega (arith, count, rest))
      (cases_Bool (is_field name field))
  few-named (suc k) (field ∷ fields) none = ⊎_elim
      (λ t. let count = count-yes (is_field name) field fields t in let rest = few-named k fields (sym (nth-counted (suc k) k field fields refl t) ∙ none) in omega (arith, count, rest))
      (λ t. let count = count-no (is_field name) field fields t in let rest = few-named (suc k) fields (sym (nth-passed (suc k) field fields t) ∙ none) in omega (arith, count, rest))
      (cases_Bool (is_field name field))

  pub many-named : (k : ℕ) (fields : List Field) (found : Field) → nth_field name k fields ≡ Some found → k < count_by (is_field name) fields
  many-named k [] found is = absurd (none-some found is)
  many-named zero (field ∷ fields) found is = ⊎_elim
      (λ t. let count = count-yes (is_field name) field fields t in omega (arith, count))
      (λ t. let count = count-no (is_field name) field fields t in let rest = many-named zero fields found (sym (nth-passed zero field fields t) ∙ is) in omega (arith, count, rest))
      (cases_Bool (is_field name field))
  many-named (suc k) (field ∷ fields) found is = ⊎_elim
      (λ t. let count = count-yes (is_field name) field fields t in let rest = many-named k fields found (sym (nth-counted (suc k) k field fields refl t) ∙ is) in omega (arith, count, rest))
      (λ t. let count = count-no (is_field name) field fields t in let rest = many-named (suc k) fields found (sym (nth-passed (suc k) field fields t) ∙ is) in omega (arith, count, rest))
      (cases_Bool (is_field name field))

-- ---- a field without a number

no_number : (o : Option ℕ) → (is_some o && true) ≡ false → unwrap_or o 0 ≡ 0
no_number None h = refl
no_number (Some k) h = absurd (true≢false h)

-- a field that is not there, and that may be new, has no number
pub new-first : (field : Which) → is_lacking field None ≡ false → number_of field ≡ 0
new-first field may = no_number field.number may

-- ---- an entry's field

module _ (key field : Which) (db : Reading) (n : ℕ) (it : IsMeantEntry key db n) where
  abbrev pub its_fields : List Field
  its_fields = fields_after (opening_bytes it.entry.opening ++ it.entry.key ++ it.entry.space_after_key) it.entry.rows

  -- as many of its texts have the name
  pub counted : count_by (has_name field.name) (texts_of (macros_at months db.items n) it.entry).fields ≡ count_by (is_field field.name) its_fields
  counted = sym (count-fields field.name (macros_at months db.items n) (opening_bytes it.entry.opening ++ it.entry.key ++ it.entry.space_after_key) it.entry.rows)

-- ---- the field that is meant, as it is told

module _ (which : Meant) (fields : List Field) (meant : MeantField) (is : IsMeantField (which_seen which) fields meant) where
  pub lack-told : (lacks : Bool) → lacks ≡ is_lacking (which_seen which) (option_map field_seen meant.field) → is_lacking (which_seen which) (field_meant (which_seen which) fields) ≡ lacks
  lack-told lacks told = ap (λ o. is_lacking (which_seen which) o) (sym is.field) ∙ sym told

  pub doubt-told : (other doubt : Bool) → doubt ≡ (other || meant.is_unclear) → (other || is_unclear (which_seen which) (count_by (is_field which.name.now) fields)) ≡ doubt
  doubt-told other doubt told = ap (λ b. other || b) (sym is.unclear) ∙ sym told

  pub row-told : (row : FieldView) → meant.field ≡ Some row → field_meant (which_seen which) fields ≡ Some (field_seen row)
  row-told row there = sym is.field ∙ ap (option_map field_seen) there

  pub none-told : meant.field ≡ None → field_meant (which_seen which) fields ≡ None
  none-told none = sym is.field ∙ ap (option_map field_seen) none
