use Rattle.std.proofs.Common.{length}
use Rattle.std.specs.Prelude.{not}
use Rattle.bib_spec.specs.Text.{is_space}
use Rattle.bib_text.proofs.TrimLemmas.{IsTrimming}
use Rattle.bib_text.proofs.trimming.before_space.Given as goal

abbrev pub decreases-loop-end : goal.decreases-loop-end
decreases-loop-end l = l.end

abbrev pub invariant-loop-end : goal.invariant-loop-end
invariant-loop-end l = IsTrimming (λ b. not (is_space b)) l.text (length l.text) l.end
