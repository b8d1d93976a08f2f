-- How a run of `merge` ends. (dialect)
use Rattle.std.specs.Prelude.{◌≡◌, []}
use Rattle.bib_spec.specs.Text.{Text}
use Rattle.bib_words.specs.declared.commands.Command.{Command}
use Rattle.bib_answers.specs.declared.answers.Outcome.{Outcome}
use Rattle.bib_answers.specs.declared.answers.Answer.{Answer}
use Rattle.bib_answers.specs.Outcome.{outcome_of}
use Rattle.bib_run.specs.Views.{TapView}
use Rattle.bib_run.specs.Written.{IsWritten}
use Rattle.merge_run.specs.Answers.{IsMergeAnswer}

-- a run of `merge` over a common file, ours and theirs with these bytes, by the tap of its output before and after it, and its outcome
pub data IsMergeRun (command : Command) (base ours theirs : Text) (old new : TapView) (outcome : Outcome) : Type 0 where
  -- the answer was written
  answered : (answer : Answer) → IsMergeAnswer command.print command.words base ours theirs answer → IsWritten answer old new outcome → IsMergeRun command base ours theirs old new outcome
  -- memory ran out, and nothing was written
  unanswered : new ≡ old → outcome ≡ outcome_of [] 4 → IsMergeRun command base ours theirs old new outcome
