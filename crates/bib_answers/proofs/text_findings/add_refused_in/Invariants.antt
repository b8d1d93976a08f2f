use Rattle.bib_answers.proofs.Words.{◌≡◌, take, with_findings}
use Rattle.bib_answers.proofs.FindingSteps.{refused_lent}
use Rattle.bib_answers.proofs.text_findings.add_refused_in.Given as goal

abbrev pub invariant-names : goal.invariant-names
invariant-names l = l.lines ≡ with_findings l.initial.lines (refused_lent l.at (take l.name-index l.name-items))
