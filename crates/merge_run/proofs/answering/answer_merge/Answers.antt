use Rattle.std.proofs.Common.{[], map, ◌∙◌, ap}
use Rattle.std.proofs.lemmas.Result.{IfOk-weaker}
use Rattle.bib_spec.specs.Text.{Text}
use Rattle.bib_places.specs.ConflictsSeen.{conflict_seen}
use Rattle.bib_answers.specs.Outcome.{answer_of}
use Rattle.merge_run.specs.Answers.{merged, unmerged}
use Rattle.merge_run.proofs.answering.answer_merge.Goals as goal

pub returns-in-Ok : goal.returns-in-Ok
returns-in-Ok c =
    let m = c.in-Ok.merged in
    IfOk-weaker c.merged_answer.result _ _ (λ answer is. merged m.text m.keys.items (map conflict_seen m.conflicts.items) m.lost.items m.uses.items c.in-Ok.ensures.merged is) c.merged_answer.ensures

pub returns-in_ok-line-in-Err : goal.returns-in_ok-line-in-Err
returns-in_ok-line-in-Err c =
    unmerged c.in-Err.fault c.in_ok-line-in-Err.ensures.0 c.in-Err.ensures.fault (c.refused.ensures ∙ ap (λ (t : Text). answer_of [] t 1) c.in_ok-line-in-Err.ensures.1)
