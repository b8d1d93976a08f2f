use Rattle.ris_text.proofs.Words.{◌+◌, ◌≤◌, length, rest_of}
use Rattle.ris_text.proofs.ToldLemmas.{IsOutside}
use Rattle.ris_text.proofs.reading.read_next.Given as goal

abbrev pub invariant-line : goal.invariant-line
invariant-line l = record {
  outside : IsOutside l.end l.passed (rest_of l.end l.fn.skipped l.fn.lines).says (l.fn.skipped + length l.fn.lines) l.rest;
  fewer : length l.rest ≤ length l.fn.lines;
}

abbrev pub decreases-line : goal.decreases-line
decreases-line l = length l.rest
