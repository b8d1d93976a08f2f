-- A record as an entry that an edit adds.
use Rattle.std.specs.Prelude.{Bool, map}
use Rattle.std.specs.List.{list_all}
use Rattle.bib_spec.specs.Records.{Record, RecordField}
use Rattle.bib_names.specs.Label.{balances}
use Rattle.bib_data.specs.declared.edit.NewEntry.{NewEntry}
use Rattle.ris_format.specs.People.{in_braces}

-- a field whose value is the text in braces
abbrev pub value_field : RecordField → RecordField
value_field f = (f.0, in_braces f.1)

-- the entry with the record's type and key, each text as a braced value
abbrev pub entry_of : Record → NewEntry
entry_of r = record { kind_name = r.kind_name; key = r.key; fields = map value_field r.fields }

-- each text is balanced
abbrev pub are_balanced : Record → Bool
are_balanced r = list_all (λ f. balances f.1) r.fields
