use Rattle.ris_format.proofs.Words.{◌≡◌, ◌++◌, length, take, drop, value_field}
use Rattle.std.proofs.Common.{map}
use Rattle.ris_format.proofs.new_entry.brace_all.Given as goal

abbrev pub invariant-fields : goal.invariant-fields
invariant-fields l = record {
  braced : take l.n l.fields.items ++ map value_field (drop l.n l.fields.items) ≡ map value_field l.fn.fields.items;
  all : length l.fields.items ≡ length l.fn.fields.items;
}
