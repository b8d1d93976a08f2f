use Rattle.std.proofs.Common.{◌≡◌, ◌≤◌, drop}
use Rattle.bibtex_labels.specs.Pieces.{depth_from}
use Rattle.bibtex_labels.proofs.prefix.open_braces.Given as goal

abbrev pub invariant-loop-byte : goal.invariant-loop-byte
invariant-loop-byte l = record {
  depth : depth_from l.depth (drop l.byte-index l.text) ≡ depth_from 0 l.text;
  small : l.depth ≤ l.byte-index;
}
