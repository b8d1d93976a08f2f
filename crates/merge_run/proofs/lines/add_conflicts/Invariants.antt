use Rattle.bib_places.specs.ConflictsSeen.{change_seen}
use Rattle.bib_places.proofs.Lists.{IsGatheredTo}
use Rattle.bib_places.specs.OwnedLabels.{owned_seen}
use Rattle.merge_run.specs.Lines.{change_lines}
use Rattle.merge_run.proofs.lines.add_conflicts.Given as goal

abbrev pub invariant-conflicts : goal.invariant-conflicts
invariant-conflicts l = IsGatheredTo (λ c. change_lines (owned_seen c.label) (change_seen c.change)) l.fn.out.items l.conflicts l.k l.out.items
