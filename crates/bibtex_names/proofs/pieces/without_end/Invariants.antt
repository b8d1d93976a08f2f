use Rattle.bib_names.proofs.Words.{length, is_dropped_at_end, IsTrimming}
use Rattle.std.specs.Prelude.{not}
use Rattle.bibtex_names.proofs.pieces.without_end.Given as goal

abbrev pub decreases-loop-end : goal.decreases-loop-end
decreases-loop-end l = l.end

abbrev pub invariant-loop-end : goal.invariant-loop-end
invariant-loop-end l = IsTrimming (λ b. not (is_dropped_at_end b)) l.text (length l.text) l.end
