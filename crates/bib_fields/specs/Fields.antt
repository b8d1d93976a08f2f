-- The fields of entries in the code, and those of a merged entry.
use Rattle.std.specs.Prelude.{◌≡◌, Bool, true, List, ◌++◌, Some, slice_get, bytes_eq}
use Rattle.std.specs.List.{AllZip, list_any}
use Rattle.bib_spec.specs.Tree.{Row}
use Rattle.bib_spec.specs.Texts.{row_start}
use Rattle.bib_scan.specs.declared.fields.FieldView.{FieldView}
use Rattle.bib_scan.specs.View.{field_seen}
use Rattle.bib_store.specs.Gathering.{IsFieldOf}
use Rattle.bib_fields.specs.declared.mix.RowOf.{RowOf}
use Rattle.bib_fields.specs.declared.mix.MixedRow.{MixedRow}
use Rattle.bib_fields.specs.MixSeen.{of_side, row_of, row_seen}

-- the field of the code is that of the row
abbrev pub IsField : FieldView → Row → Type 0
IsField field row = IsFieldOf (field_seen field) row

-- the fields of the code are those of the rows, in order
abbrev pub AreFields : List FieldView → List Row → Type 0
AreFields fields rows = AllZip IsField fields rows

-- the field of the code is that of a row of one of the sides
pub record IsFieldAt (o t : List Row) (field : FieldView) (r : RowOf) : Type 0 where
  pub there : slice_get (of_side r.side o t) r.n ≡ Some (row_of o t r)
  pub of : IsField field (row_of o t r)

-- a row of the two begins as this one
abbrev pub begins_as : List Row → Row → Bool
begins_as rows row = list_any (λ other. bytes_eq (row_start row) (row_start other)) rows

-- the field of the code is that of the merged row, which begins as a row of one of the sides
pub record IsMixedField (o t : List Row) (field : FieldView) (row : MixedRow) : Type 0 where
  pub of : IsField field (row_seen o t row)
  pub begins : begins_as (o ++ t) (row_seen o t row) ≡ true
