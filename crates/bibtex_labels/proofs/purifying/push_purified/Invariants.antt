use Rattle.std.proofs.Common.{◌≡◌, ◌++◌, length}
use Rattle.std.specs.List.{flat_map}
use Rattle.bibtex_labels.specs.Purified.{purified, purified_piece}
use Rattle.bibtex_labels.proofs.purifying.push_purified.Given as goal

abbrev pub invariant-pieces : goal.invariant-pieces
invariant-pieces l = l.out.items ++ flat_map purified_piece l.pieces ≡ l.fn.out.items ++ purified l.text

abbrev pub decreases-pieces : goal.decreases-pieces
decreases-pieces l = length l.pieces
