use Rattle.bib_names.proofs.Words.{◌-◌, length, IsTrimming}
use Rattle.bibtex_names.specs.Name.{is_von}
use Rattle.bibtex_names.proofs.name_cut.von_end.Given as goal

abbrev pub decreases-loop-end : goal.decreases-loop-end
decreases-loop-end l = l.end

abbrev pub invariant-loop-end : goal.invariant-loop-end
invariant-loop-end l = IsTrimming is_von l.words (length l.words - 1) l.end
