use Rattle.bib_answers.proofs.Words.{◌≡◌, length, map, with_findings}
use Rattle.bib_answers.specs.Lint.{stray_finding, gap_findings}
use Rattle.bib_answers.proofs.gap_findings.add_gap_findings.Given as goal

abbrev pub invariant-strays : goal.invariant-strays
invariant-strays l = with_findings l.lines (map (stray_finding l.at) l.strays) ≡ with_findings l.initial.lines (gap_findings l.commented l.at l.text)

abbrev pub decreases-strays : goal.decreases-strays
decreases-strays l = length l.strays
