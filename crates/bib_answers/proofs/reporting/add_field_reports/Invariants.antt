use Rattle.bib_answers.proofs.Words.{length, defined_in, IsAt}
use Rattle.bib_answers.specs.Recurring.{names_of}
use Rattle.bib_answers.proofs.ReportSteps.{IsReporting}
use Rattle.bib_answers.proofs.reporting.add_field_reports.Given as goal

abbrev pub invariant-fields : goal.invariant-fields
invariant-fields g l = IsReporting (defined_in l.item.kind) (g.M.MacroTable.macros l.macros) l.item.key l.item.fields l.initial.out.items l.out.items (λ names. IsAt l.earlier (names_of l.item.fields) names (names_of l.fields)) l.fields

abbrev pub decreases-fields : goal.decreases-fields
decreases-fields g l = length l.fields
