use Rattle.bib_answers.proofs.Words.{option_copied, use_report}
use Rattle.bib_answers.proofs.ReportSteps.{UsesTo}
use Rattle.bib_answers.proofs.reporting.add_part_uses.Given as goal

abbrev pub invariant-uses : goal.invariant-uses
invariant-uses g l = UsesTo l.value (use_report (option_copied l.own) (g.M.MacroTable.macros l.macros)) l.n l.initial.out.items l.out.items
