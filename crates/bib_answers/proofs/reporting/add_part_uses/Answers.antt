use Rattle.bib_answers.proofs.Words.{◌≡◌, ◌∙◌, refl, option_copied, part_view, parts_counted, use_report}
use Rattle.std.proofs.Common.{arith}
use Rattle.bib_answers.proofs.ReportSteps.{uses_more, uses_all}
use Rattle.bib_answers.proofs.reporting.add_part_uses.Goals as goal

pub uses-preserved : goal.uses-preserved
uses-preserved g c v ok same =
    c.in_ok-add_use.ensures
    ∙ uses_more c.args.value.now (use_report (option_copied c.args.own) (g.M.MacroTable.macros c.args.macros.now)) c.uses.n c.args.out.now.items c.uses.out.items
    (use_report (option_copied c.args.own) (g.M.MacroTable.macros c.args.macros.now) (part_view c.part.result))
    (λ v ok same. (part_view c.part.result, c.part.ensures v ok same, refl)) c.uses.invariant v ok same

pub returns : goal.returns
returns g c v ok same =
    let end : c.uses.n ≡ c.len-n-end.result = omega arith in
    uses_all c.args.value.now (use_report (option_copied c.args.own) (g.M.MacroTable.macros c.args.macros.now)) c.uses.n c.args.out.now.items c.uses.out.items
    (λ v ok same. end ∙ parts_counted c.args.value.now c.args.parts.now c.len-n-end.result c.requires c.len-n-end.ensures.parts v ok same) c.uses.invariant v ok same
