use Rattle.std.proofs.Common.{◌≡◌, ◌++◌, length}
use Rattle.bibtex_labels.specs.Pieces.{front_pieces, joined, pieces}
use Rattle.bibtex_labels.proofs.prefix.front.Given as goal

abbrev pub invariant-loop-left : goal.invariant-loop-left
invariant-loop-left l = l.out.items ++ joined (front_pieces l.left l.pieces) ≡ joined (front_pieces l.count (pieces l.text))

abbrev pub decreases-loop-left : goal.decreases-loop-left
decreases-loop-left l = length l.pieces
