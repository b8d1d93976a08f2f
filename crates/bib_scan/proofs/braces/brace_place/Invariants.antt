use Rattle.bib_scan.proofs.Words.{◌-◌, ◌≤◌, length, Nowhere, IsBraceAt}
use Rattle.bib_scan.proofs.braces.brace_place.Given as goal

abbrev pub invariant-loop-place : goal.invariant-loop-place
invariant-loop-place l = record { low : l.at ≤ l.place; within : l.place ≤ length l.text; before : Nowhere (IsBraceAt l.text) l.at l.place }

abbrev pub decreases-loop-place : goal.decreases-loop-place
decreases-loop-place l = length l.text - l.place
