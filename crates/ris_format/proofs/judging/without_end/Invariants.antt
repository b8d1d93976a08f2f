use Rattle.ris_format.proofs.Words.{length}
use Rattle.std.specs.Prelude.{not}
use Rattle.bib_names.specs.Marks.{is_dropped_at_end}
use Rattle.bib_text.proofs.TrimLemmas.{IsTrimming}
use Rattle.ris_format.proofs.judging.without_end.Given as goal

abbrev pub decreases-loop-end : goal.decreases-loop-end
decreases-loop-end l = l.end

abbrev pub invariant-loop-end : goal.invariant-loop-end
invariant-loop-end l = IsTrimming (λ b. not (is_dropped_at_end b)) l.name (length l.name) l.end
