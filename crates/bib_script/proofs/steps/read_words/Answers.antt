use Rattle.std.proofs.Common.{sym, ◌∙◌, List, map, subst, All}
use Rattle.bib_data.specs.Depths.{AsksWithDepth}
use Rattle.bib_data.specs.declared.request.Request.{Request}
use Rattle.bib_script.proofs.Depths.{step-asks}
use Rattle.bib_script.proofs.steps.read_words.Goals as goal

-- src/steps.rt:18:1
pub returns-in-Some-clause-depths : goal.returns-in-Some-clause-depths
returns-in-Some-clause-depths c =
    subst (λ (requests : List Request). All AsksWithDepth requests) (sym c.in_ok-step_of-in-Some.ensures)
    (step-asks (map (λ w. w.now) c.as_slice.result.now) _ _ (sym c.in_ok-edit.ensures ∙ c.in-Some.is))
