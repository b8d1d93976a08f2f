use Rattle.ris_format.proofs.Words.{length, is_margin}
use Rattle.std.specs.Prelude.{not}
use Rattle.bib_text.proofs.TrimLemmas.{IsTrimming}
use Rattle.ris_format.proofs.pages.before_margin.Given as goal

abbrev pub decreases-loop-end : goal.decreases-loop-end
decreases-loop-end l = l.end

abbrev pub invariant-loop-end : goal.invariant-loop-end
invariant-loop-end l = IsTrimming (λ b. not (is_margin b)) l.text (length l.text) l.end
