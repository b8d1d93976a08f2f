use Rattle.bib_run.proofs.Words.{◌≡◌, ◌∙◌, ◌++◌, List, take, sym, ap, flat_map, Text, step_line}
use Rattle.std.proofs.Common.{get_or}
use Rattle.std.proofs.lemmas.List.{take_more, flat_map_more}
use Rattle.history_spec.specs.Steps.{Step}
use Rattle.bib_run.proofs.commands.log.add_steps.Goals as goal

pub step-preserved : goal.step-preserved
step-preserved c =
    let steps : List Step = c.args.steps.now in
    let word : Text = c.args.word.now in
    let i = c.step.step-index in
    let before : Text = c.args.out.now.items in
    let out : Text = c.step.out.items in
    let step : Step = get_or steps i c.step-item.result in
    let line : c.in_ok-line.line ≡ step_line word step = c.in_ok-line.ensures ∙ ap (step_line word) c.step-item.is in
    let put : c.extend_from_slice.new.self.items ≡ out ++ step_line word step = c.in_ok-extend_from_slice.ensures.items ∙ ap (λ (t : Text). out ++ t) (c.as_slice.ensures ∙ line) in
    put ∙ ap (λ (t : Text). t ++ step_line word step) c.step.invariant ∙ flat_map_more (step_line word) before (take i steps) step
    ∙ ap (λ (ss : List Step). before ++ flat_map (step_line word) ss) (sym (take_more steps i c.step-item.result c.step-test.true))
