use Rattle.std.proofs.Common.{◌+◌, ◌-◌, length}
use Rattle.bib_pieces.proofs.Growing.{IsGrowing}
use Rattle.bib_pieces.proofs.grouping.first_group.Given as goal

abbrev pub invariant-members : goal.invariant-members
invariant-members l = IsGrowing l.backs l.ons l.place l.covered.items l.i l.j

abbrev pub decreases-members : goal.decreases-members
decreases-members l = length l.backs - l.i + (length l.ons - l.j)
