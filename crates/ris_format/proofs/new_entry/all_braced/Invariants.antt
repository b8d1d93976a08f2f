use Rattle.ris_format.proofs.Words.{◌≡◌, take, value_field}
use Rattle.std.proofs.Common.{map}
use Rattle.ris_format.proofs.new_entry.all_braced.Given as goal

abbrev pub invariant-loop-field : goal.invariant-loop-field
invariant-loop-field l = l.all.items ≡ map value_field (take l.field-index l.fields)
