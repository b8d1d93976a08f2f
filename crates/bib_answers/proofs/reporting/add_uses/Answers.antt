use Rattle.bib_answers.proofs.Words.{◌∙◌, option_copied, part_view, use_report}
use Rattle.bib_answers.proofs.ReportSteps.{uses_alone}
use Rattle.bib_answers.proofs.reporting.add_uses.Goals as goal

pub returns-in-Some : goal.returns-in-Some
returns-in-Some g c v ok same =
    c.in_ok-add_use.ensures
    ∙ uses_alone c.args.value.now (use_report (option_copied c.args.own) (g.M.MacroTable.macros c.args.macros.now)) (part_view c.in-Some.part) c.args.out.now.items c.in-Some.ensures v ok same
