use Rattle.std.proofs.Common.{◌-◌, length}
use Rattle.bibtex_plain.proofs.SignSteps.{GapWalk}
use Rattle.bibtex_plain.proofs.signs.gap_breach.Given as goal

abbrev pub invariant-signs : goal.invariant-signs
invariant-signs l = GapWalk l.text l.at l.last l.is_followed l.is_over l.from l.over

abbrev pub decreases-signs : goal.decreases-signs
decreases-signs l = length l.text - l.from
