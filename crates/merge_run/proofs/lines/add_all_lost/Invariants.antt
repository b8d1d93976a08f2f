use Rattle.bib_places.proofs.Lists.{IsGatheredTo}
use Rattle.merge_run.specs.Lines.{lost_line}
use Rattle.merge_run.proofs.lines.add_all_lost.Given as goal

abbrev pub invariant-lost : goal.invariant-lost
invariant-lost l = IsGatheredTo lost_line l.fn.out.items l.lost l.k l.out.items
