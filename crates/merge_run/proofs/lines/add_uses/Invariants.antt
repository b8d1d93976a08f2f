use Rattle.bib_places.proofs.Lists.{IsGatheredTo}
use Rattle.merge_run.specs.Lines.{use_line}
use Rattle.merge_run.proofs.lines.add_uses.Given as goal

abbrev pub invariant-uses : goal.invariant-uses
invariant-uses l = IsGatheredTo use_line l.fn.out.items l.uses l.k l.out.items
