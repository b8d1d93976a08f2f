use Rattle.std.proofs.Common.{length}
use Rattle.std.specs.Prelude.{not}
use Rattle.bib_spec.specs.Text.{is_space}
use Rattle.bib_text.proofs.TrimLemmas.{IsTrimming}
use Rattle.bib_units.proofs.spaces.words_len.Given as goal

abbrev pub decreases-end : goal.decreases-end
decreases-end l = l.end

abbrev pub invariant-end : goal.invariant-end
invariant-end l = IsTrimming (λ b. not (is_space b)) l.text (length l.text) l.end
