use Rattle.journal_format.proofs.Words.{◌≡◌, ◌∙◌, ◌++◌, List, take, get_or, sym, ap, flat_map, take_more, flat_map_more, Text, Step, step_text}
use Rattle.journal_format.proofs.writing.put_steps.Goals as goal

pub step-preserved : goal.step-preserved
step-preserved c =
    let steps : List Step = c.args.steps.now in
    let i = c.step.step-index in
    let before : Text = c.args.out.now.items in
    let out : Text = c.step.out.items in
    let step : Step = get_or steps i c.step-item.result in
    let put : c.put_step.new.out.items ≡ out ++ step_text step = c.in_ok-put_step.ensures ∙ ap (λ (s : Step). out ++ step_text s) c.step-item.is in
    put ∙ ap (λ (t : Text). t ++ step_text step) c.step.invariant ∙ flat_map_more step_text before (take i steps) step
    ∙ ap (λ (ss : List Step). before ++ flat_map step_text ss) (sym (take_more steps i c.step-item.result c.step-test.true))
