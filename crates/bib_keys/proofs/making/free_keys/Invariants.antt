use Rattle.bib_keys.proofs.Words.{◌+◌, ◌≤◌, length, OfReading, taken_in}
use Rattle.std.proofs.Common.{◌*◌}
use Rattle.bib_spec.specs.Bytes.{file_limit}
use Rattle.bib_keys.proofs.MadeKeyLists.{AreMadeTo}
use Rattle.bib_keys.proofs.making.free_keys.Given as goal

abbrev pub invariant-bases : goal.invariant-bases
invariant-bases g l = record {
  made : OfReading l.db (λ r. AreMadeTo (taken_in r l.taken) l.bases l.base-index l.known l.keys.items);
  count : l.known.count ≤ 2 * file_limit + length l.taken + l.base-index;
}
