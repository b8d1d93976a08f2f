use Rattle.std.proofs.Common.{◌≡◌, ◌++◌, length}
use Rattle.std.specs.List.{flat_map}
use Rattle.bibtex_labels.specs.Purified.{purified_byte}
use Rattle.bibtex_labels.proofs.purifying.push_bytes.Given as goal

abbrev pub invariant-bytes : goal.invariant-bytes
invariant-bytes l = l.out.items ++ flat_map purified_byte l.rest ≡ l.fn.out.items ++ flat_map purified_byte l.bytes

abbrev pub decreases-bytes : goal.decreases-bytes
decreases-bytes l = length l.rest
