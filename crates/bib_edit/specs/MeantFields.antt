-- The field that is meant: by its number among those that have its name.
use Rattle.std.specs.Prelude.{ℕ, zero, suc, ◌≡◌, ◌&&◌, Bool, List, [], ◌∷◌, Option, Some, None, is_some, is_none, option_map, count_by, if◌then◌else◌}
use Rattle.bib_spec.specs.Text.{Text}
use Rattle.edit_spec.specs.Edits as edits
use Rattle.edit_spec.specs.Edits.{number_of, is_unclear}
use Rattle.bib_scan.specs.View.{Field, field_seen}
use Rattle.bib_edit.specs.Addressing.{is_field}
use Rattle.bib_edit.specs.declared.one_entry.MeantField.{MeantField}

-- the field that has this number, from 0, among those that have the name
abbrev pub nth_field : Text → ℕ → List Field → Option Field
nth_field name k [] = None
nth_field name zero (field ∷ fields) = if is_field name field then Some field else nth_field name zero fields
nth_field name (suc k) (field ∷ fields) = nth_field name (if is_field name field then k else suc k) fields

-- the field that is meant, if it is there
abbrev pub field_meant : edits.Which → List Field → Option Field
field_meant which fields = nth_field which.name (number_of which) fields

-- the field that is meant, and whether it is unclear which is
pub record IsMeantField (which : edits.Which) (fields : List Field) (meant : MeantField) : Type 0 where
  pub field : option_map field_seen meant.field ≡ field_meant which fields
  pub unclear : meant.is_unclear ≡ is_unclear which (count_by (is_field which.name) fields)

-- a number names the field, and this is not there
abbrev pub is_lacking : edits.Which → Option Field → Bool
is_lacking which found = is_some which.number && is_none found
