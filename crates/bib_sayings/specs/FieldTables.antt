-- The values of an entry's fields, by their names.
use Rattle.std.specs.Prelude.{◌≡◌, Bool, true, false, List, map, find, Option, None, Some, option_map, bytes_eq}
use Rattle.std.specs.Borrow.{Bor}
use Rattle.std.specs.List.{AllByRecursion}
use Rattle.std.specs.Option.{option_copied}
use Rattle.bib_spec.specs.Bytes.{name_limit}
use Rattle.bib_spec.specs.Text.{Text, folded, same}
use Rattle.bib_spec.specs.Tree.{Row, IsValue, value_bytes}
use Rattle.bib_spec.specs.Texts.{Macros, raw_text, field_text}
use Rattle.bib_scan.specs.View.{Field}
use Rattle.bib_value.specs.Raw.{OfValue}
use Rattle.folded_map.specs.FoldedMap.{value_at}
use Rattle.merge_spec.specs.ThreeWay.{is_row, are_single}

-- the names of fields, in order
abbrev pub names_of : List Field → List Text
names_of fields = map (λ field. field.name) fields

-- the value of the first field with this name
abbrev pub value_named : List Field → Text → Option Text
value_named fields name = option_map (λ field. field.value) (find (λ field. same field.name name) fields)

-- the table has the first value of each name
abbrev pub IsTableOf : List (Text × Bor Text) → List Field → Type 0
IsTableOf table fields = (name : Text) → option_copied (value_at table (folded name)) ≡ value_named fields name

-- the table is that of these fields, if each name is there once; if there is no table, a name is there twice
abbrev pub IsTableFound : Option (List (Text × Bor Text)) → List Field → Type 0
IsTableFound None fields = are_single (names_of fields) ≡ false
IsTableFound (Some table) fields = (are_single (names_of fields) ≡ true) × IsTableOf table fields

-- the table has the values of these rows, by their names
pub record IsTableOfRows (table : List (Text × Bor Text)) (rows : List Row) : Type 0 where
  pub named : (name : Text) → option_copied (value_at table (folded name)) ≡ option_map (λ row. value_bytes row.assignment.value) (find (is_row name) rows)
  pub values : AllByRecursion (λ row. IsValue name_limit row.assignment.value) rows

-- the answer is whether the two values have the same field text, or both are absent
abbrev pub same_texts : Macros → Option Text → Macros → Option Text → Bool → Type 0
same_texts ma (Some a) mb (Some b) same =
    OfValue a (λ v. OfValue b (λ w. same ≡ bytes_eq (field_text (raw_text ma v)) (field_text (raw_text mb w))))
same_texts ma None mb None same = same ≡ true
same_texts ma None mb (Some b) same = same ≡ false
same_texts ma (Some a) mb None same = same ≡ false
