use Rattle.std.proofs.Common.{◌≡◌, ◌<◌, ◌+◌, length}
use Rattle.bibtex_labels.specs.Pieces.{text_length}
use Rattle.bibtex_labels.proofs.PieceLemmas.{characters}
use Rattle.bibtex_labels.proofs.prefix.is_one_character.Given as goal

abbrev pub invariant-loop-piece : goal.invariant-loop-piece
invariant-loop-piece l = record {
  count : l.count + characters l.pieces ≡ text_length l.text;
  few : l.count < 2;
}

abbrev pub decreases-loop-piece : goal.decreases-loop-piece
decreases-loop-piece l = length l.pieces
