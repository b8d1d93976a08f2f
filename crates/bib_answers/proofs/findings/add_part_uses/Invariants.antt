use Rattle.bib_answers.proofs.Words.{◌+◌, ℕ, option_copied, Part, use_findings}
use Rattle.bib_answers.proofs.FindingSteps.{UsesTo}
use Rattle.bib_answers.proofs.findings.add_part_uses.Given as goal

abbrev pub invariant-uses : goal.invariant-uses
invariant-uses g l = UsesTo l.value.bytes.now (λ (placed : ℕ × Part). use_findings (option_copied l.value.own) (g.M.MacroTable.macros l.macros) (l.value.at + placed.0) placed.1) l.n l.initial.lines l.lines
