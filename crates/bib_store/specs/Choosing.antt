-- The fields of a record that have one of some names.
use Rattle.std.specs.Prelude.{Bool, List, filter}
use Rattle.std.specs.List.{list_any}
use Rattle.bib_spec.specs.Text.{Text, same}
use Rattle.bib_spec.specs.Records.{Record, RecordField}

-- the name is one of these
abbrev pub is_one_of : List Text → Text → Bool
is_one_of names name = list_any (same name) names

-- those of the fields that have one of these names
abbrev pub chosen : List Text → List RecordField → List RecordField
chosen names fields = filter (λ field. is_one_of names field.0) fields

-- the record without its other fields
abbrev pub with_chosen : List Text → Record → Record
with_chosen names rec = record { kind_name = rec.kind_name; key = rec.key; fields = chosen names rec.fields }
