use Rattle.bib_answers.proofs.Words.{◌≡◌, true, length, option_copied, defined_in, crossref_findings, IsAt}
use Rattle.bib_answers.specs.Recurring.{names_of}
use Rattle.bib_answers.specs.Lint.{first_findings}
use Rattle.bib_answers.specs.Plain.{ArePlain}
use Rattle.bib_answers.proofs.FindingSteps.{IsFinding}
use Rattle.bib_answers.proofs.findings.add_field_findings.Given as goal

abbrev pub invariant-fields : goal.invariant-fields
invariant-fields g l = IsFinding (defined_in l.it.view.now.kind) (g.M.MacroTable.macros l.macros) (first_findings l.it.view.now.kind (g.M.MacroTable.macros l.macros) l.it.redefines (crossref_findings l.it.crossref.empty_parents l.it.crossref.key.now l.it.crossref.n (option_copied l.it.crossref.text) l.it.crossref.target l.it.crossref.grandparent)) l.it.view.now.fields l.initial.lines l.lines
    (λ names. IsAt l.earlier (names_of l.it.view.now.fields) names (names_of l.fields)) l.fields
    × (l.it.ascii ≡ true → ArePlain l.fields)

abbrev pub decreases-fields : goal.decreases-fields
decreases-fields g l = length l.fields
