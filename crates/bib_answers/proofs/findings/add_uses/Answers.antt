use Rattle.bib_answers.proofs.Words.{◌∙◌, ◌+◌, ℕ, option_copied, on_ok_weaker, Part, part_view, use_findings}
use Rattle.bib_answers.proofs.FindingSteps.{uses_alone}
use Rattle.bib_answers.proofs.findings.add_uses.Goals as goal

pub returns-in-Some : goal.returns-in-Some
returns-in-Some g c = on_ok_weaker c.add_use.result (λ h v ok same.
    h ∙ uses_alone c.args.value.bytes.now (λ (placed : ℕ × Part). use_findings (option_copied c.args.value.own) (g.M.MacroTable.macros c.args.macros.now) (c.args.value.at + placed.0) placed.1) (part_view c.in-Some.part) c.args.lines.now c.in-Some.ensures v ok same)
    c.add_use.ensures
