use Rattle.std.proofs.Common.{rules, ◌≡◌, List, subst}
use Rattle.bib_spec.specs.Text.{Text}
use Rattle.merge_run.specs.Answers.{IsMergeAnswer}
use Rattle.merge_run.specs.Runs.{answered}
use Rattle.merge_run.proofs.engine.run_merge.Goals as goal

pub returns-in-Ok : goal.returns-in-Ok
returns-in-Ok g c =
    let names : c.as_slice-names.result.now ≡ c.args.command.now.words = search rules in
    answered c.in-Ok.answer
    (subst (λ (words : List Text). IsMergeAnswer c.args.command.now.print words c.args.base.items c.args.ours.items c.args.theirs.items c.in-Ok.answer) names c.in-Ok.ensures)
    c.write_answer.ensures
