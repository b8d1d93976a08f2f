use Rattle.bib_names.proofs.Words.{◌≡◌, ◌+◌, ◌≤◌, length}
use Rattle.bibtex_names.specs.Counting.{counted, three}
use Rattle.bibtex_names.proofs.counting.three.Given as goal

abbrev pub decreases-loop-wanted : goal.decreases-loop-wanted
decreases-loop-wanted l = l.wanted

abbrev pub invariant-loop-wanted : goal.invariant-loop-wanted
invariant-loop-wanted l = record {
  told : counted l.wanted l.depth l.rest ≡ three l.is_open l.text;
  small : l.depth + length l.rest ≤ 1 + length l.text;
}
