-- The table of the first value of each name, as fields are added.
use Rattle.std.proofs.Common.{◌≡◌, Bool, true, false, cond, if◌then◌else◌, List, [], ◌∷◌, ◌++◌, Option, None, Some, is_some, find, option_map, bytes_eq, refl, sym, ◌∙◌, ap, ⊎_elim}
use Rattle.std.specs.Borrow.{Bor}
use Rattle.std.specs.Option.{option_copied, option_or, option_map_or}
use Rattle.std.proofs.lemmas.Bool.{cases_Bool, cond-true, cond-false, true≢false}
use Rattle.std.proofs.lemmas.List.Folds.{find-append}
use Rattle.bib_spec.specs.Text.{Text, folded, same}
use Rattle.bib_spec.specs.Tree.{Row, value_bytes}
use Rattle.bib_spec.proofs.Names.{eq-true, same_comm}
use Rattle.bib_scan.specs.View.{Field}
use Rattle.folded_map.specs.FoldedMap.{value_at, IsWith}
use Rattle.merge_spec.specs.ThreeWay.{is_row}
use Rattle.bib_sayings.specs.FieldTables.{value_named, IsTableOf, IsTableOfRows}

abbrev pub Table : Type 0
Table = List (Text × Bor Text)

-- names that are folded alike have one value
named-alike : (fields : List Field) (a b : Text) → folded a ≡ folded b → value_named fields a ≡ value_named fields b
named-alike fields a b e = ap (λ t. option_map (λ field. field.value) (find (λ field. bytes_eq (folded field.name) t) fields)) e

module _ (fields : List Field) (f : Field) where
  added : (name : Text) → value_named (fields ++ f ∷ []) name ≡ option_map (λ field. field.value) (option_or (find (λ field. same field.name name) fields) (cond (same f.name name) (Some f) None))
  added name = ap (option_map (λ field. field.value)) (find-append (λ field. same field.name name) fields (f ∷ []))

  from_none : (o : Option Field) (b : Bool) → option_map (λ field. field.value) o ≡ None → b ≡ true → option_map (λ field. field.value) (option_or o (cond b (Some f) None)) ≡ Some f.value
  from_none None b none e = ap (λ c. option_map (λ field. field.value) (cond c (Some f) None)) e
  from_none (Some g) b none e = cc

  from_other : (o : Option Field) (b : Bool) → b ≡ false → option_map (λ field. field.value) (option_or o (cond b (Some f) None)) ≡ option_map (λ field. field.value) o
  from_other None b e = ap (λ c. option_map (λ field. field.value) (cond c (Some f) None)) e
  from_other (Some g) b e = refl

  from_some : (o : Option Field) (b : Bool) → is_some (option_map (λ field. field.value) o) ≡ true → option_map (λ field. field.value) (option_or o (cond b (Some f) None)) ≡ option_map (λ field. field.value) o
  from_some None b some = absurd (true≢false (sym some))
  from_some (Some g) b some = refl

  -- a name that is not there yet
  pub table-more : (table new : Table) (value : Bor Text) → value_at table (folded f.name) ≡ None → value.now ≡ f.value → IsWith table f.name value new → IsTableOf table fields → IsTableOf new (fields ++ f ∷ [])
  table-more table new value none value_is with is name =
      ap option_copied (with (folded name)) ∙ ⊎_elim (λ e. same_name e) (λ e. other_name e) (cases_Bool (bytes_eq (folded name) (folded f.name)))
    where
      same_name : bytes_eq (folded name) (folded f.name) ≡ true → option_copied (if bytes_eq (folded name) (folded f.name) then Some value else value_at table (folded name)) ≡ value_named (fields ++ f ∷ []) name
      same_name e =
          let folds : folded name ≡ folded f.name = eq-true (folded name) (folded f.name) e in
          ap option_copied (cond-true _ (Some value) (value_at table (folded name)) e)
          ∙ ap Some value_is
          ∙ sym (added name ∙ from_none (find (λ field. same field.name name) fields) (same f.name name) (named-alike fields name f.name folds ∙ sym (is f.name) ∙ ap option_copied none) (same_comm f.name name ∙ e))

      other_name : bytes_eq (folded name) (folded f.name) ≡ false → option_copied (if bytes_eq (folded name) (folded f.name) then Some value else value_at table (folded name)) ≡ value_named (fields ++ f ∷ []) name
      other_name e =
          ap option_copied (cond-false _ (Some value) (value_at table (folded name)) e)
          ∙ is name
          ∙ sym (added name ∙ from_other (find (λ field. same field.name name) fields) (same f.name name) (same_comm f.name name ∙ e))

  copied : (o : Option (Bor Text)) → is_some (option_copied o) ≡ is_some o
  copied None = refl
  copied (Some b) = refl

  -- a name that is there already
  pub table-same : (table : Table) → is_some (value_at table (folded f.name)) ≡ true → IsTableOf table fields → IsTableOf table (fields ++ f ∷ [])
  table-same table some is name = is name ∙ sym (added name ∙ ⊎_elim (λ e. from_some (find (λ field. same field.name name) fields) (same f.name name) (held e)) (λ e. from_other (find (λ field. same field.name name) fields) (same f.name name) e) (cases_Bool (same f.name name)))
    where
      held : same f.name name ≡ true → is_some (value_named fields name) ≡ true
      held e = ap is_some (named-alike fields name f.name (sym (eq-true (folded f.name) (folded name) e)) ∙ sym (is f.name)) ∙ copied (value_at table (folded f.name)) ∙ some

-- ---- what is found

pub absent : (o : Option (Bor (Bor Text))) → is_some o ≡ false → option_copied o ≡ None
absent None e = refl
absent (Some b) e = absurd (true≢false e)

pub present : (o : Option (Bor (Bor Text))) → is_some o ≡ true → is_some (option_copied o) ≡ true
present None e = absurd (true≢false (sym e))
present (Some b) e = refl

-- ---- a value

-- the value in the table is that of the row
pub value-found : (rows : List Row) (table : Table) (field value : Text) (found : Option Text) → IsTableOfRows table rows → found ≡ option_copied (value_at table (folded field)) →
    option_map_or (λ v. bytes_eq v value) found false ≡ option_map_or (λ row. bytes_eq (value_bytes row.assignment.value) value) (find (is_row field) rows) false
value-found rows table field value found is found_is = ap (λ (o : Option Text). option_map_or (λ v. bytes_eq v value) o false) (found_is ∙ is.named field) ∙ at (find (is_row field) rows)
  where
    at : (o : Option Row) → option_map_or (λ v. bytes_eq v value) (option_map (λ row. value_bytes row.assignment.value) o) false ≡ option_map_or (λ row. bytes_eq (value_bytes row.assignment.value) value) o false
    at None = refl
    at (Some row) = refl
