use Rattle.std.proofs.Common.{length, ◌-◌, ◌≡◌, ◌≤◌}
use Rattle.bib_strays.specs.Strays.{strays_left}
use Rattle.bib_strays.proofs.strays.first_stray.Given as goal

abbrev pub invariant-lines : goal.invariant-lines
invariant-lines l = (l.place ≤ length l.text) × (strays_left l.commented l.from l.text ≡ strays_left l.commented l.place l.text)

abbrev pub decreases-lines : goal.decreases-lines
decreases-lines l = length l.text - l.place
