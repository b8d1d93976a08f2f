use Rattle.std.proofs.Common.{◌≡◌, ◌++◌, true, take}
use Rattle.std.specs.List.{flat_map}
use Rattle.entry_json.specs.EntryJson.{are_fields_utf8}
use Rattle.entry_json.proofs.WrittenFields.{field_tokens}
use Rattle.entry_json.proofs.writing.write_fields.Given as goal

abbrev pub invariant-fields : goal.invariant-fields
invariant-fields l =
    (l.writer.before ≡ l.initial.writer.before)
    × (l.writer.tokens ≡ l.initial.writer.tokens ++ flat_map field_tokens (take l.field-index l.fields))
    × (are_fields_utf8 (take l.field-index l.fields) ≡ true)
