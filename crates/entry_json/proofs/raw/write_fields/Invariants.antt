use Rattle.std.proofs.Common.{◌≡◌, ◌++◌, true, take}
use Rattle.std.specs.List.{flat_map, list_all}
use Rattle.entry_json.proofs.RawFields.{seen_tokens, is_seen_utf8}
use Rattle.entry_json.proofs.raw.write_fields.Given as goal

abbrev pub invariant-fields : goal.invariant-fields
invariant-fields l =
    (l.writer.before ≡ l.initial.writer.before)
    × (l.writer.tokens ≡ l.initial.writer.tokens ++ flat_map seen_tokens (take l.field-index l.fields))
    × (list_all is_seen_utf8 (take l.field-index l.fields) ≡ true)
