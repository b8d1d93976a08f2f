use Rattle.bib_names.proofs.Words.{length, IsTrimming}
use Rattle.bibtex_names.specs.Name.{is_free}
use Rattle.bibtex_names.proofs.name_cut.hyphened_start.Given as goal

abbrev pub decreases-loop-end : goal.decreases-loop-end
decreases-loop-end l = l.end

abbrev pub invariant-loop-end : goal.invariant-loop-end
invariant-loop-end l = IsTrimming is_free l.words (length l.words) l.end
