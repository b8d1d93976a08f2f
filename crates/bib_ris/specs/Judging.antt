-- The fields of a record that are judged one after another, and what is kept of them. (dialect)
use Rattle.std.specs.Prelude.{◌≡◌, Bool, false, ◌||◌, List}
use Rattle.std.specs.List.{list_any}
use Rattle.bib_spec.specs.Text.{Text, same}
use Rattle.bib_spec.specs.Records.{RecordField, crossref}
use Rattle.ris_format.specs.Carried.{always_names}
use Rattle.bib_ris.specs.Dropped.{dropped_lines}

-- a field of this name is passed over: RIS always has a line of it, it is `crossref`, or its name was seen
abbrev pub is_passed : List Text → Text → Bool
is_passed seen name = list_any (same name) always_names || same name crossref || list_any (same name) seen

-- The names that were seen are those of the fields, except names of which RIS always has a line; and the lines are those of the
-- record with these fields.
pub record IsJudged (kind key : Text) (fields : List RecordField) (seen : List Text) (lines : Text) : Type 0 where
  pub names : (name : Text) → list_any (same name) always_names ≡ false → list_any (same name) seen ≡ list_any (λ other. same other.0 name) fields
  pub told : lines ≡ dropped_lines (record { kind_name = kind; key = key; fields = fields })
