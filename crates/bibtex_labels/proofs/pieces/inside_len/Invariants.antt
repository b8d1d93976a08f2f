use Rattle.std.proofs.Common.{◌≡◌, ◌≤◌, ◌+◌, drop}
use Rattle.bibtex_labels.specs.Pieces.{inside_len}
use Rattle.bibtex_labels.proofs.pieces.inside_len.Given as goal

abbrev pub invariant-loop-len : goal.invariant-loop-len
invariant-loop-len l = record {
  here : l.len + inside_len l.depth (drop l.len l.text) ≡ inside_len 1 l.text;
  small : l.depth ≤ l.len + 1;
}
