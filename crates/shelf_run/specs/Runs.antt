-- How a run of a command over several files ends. (dialect)
use Rattle.std.specs.Prelude.{◌≡◌, List, []}
use Rattle.bib_spec.specs.Text.{Text}
use Rattle.bib_words.specs.declared.commands.Command.{Command}
use Rattle.bib_answers.specs.declared.answers.Outcome.{Outcome}
use Rattle.bib_answers.specs.declared.answers.Answer.{Answer}
use Rattle.bib_answers.specs.Outcome.{outcome_of}
use Rattle.bib_run.specs.Views.{TapView}
use Rattle.bib_run.specs.Written.{IsWritten}
use Rattle.shelf_run.specs.Answers.{IsShelfAnswer}

-- a run of the command over files with these names and bytes, by the tap of its output before and after it, and its outcome
pub data IsShelfRun (command : Command) (names files : List Text) (old new : TapView) (outcome : Outcome) : Type 0 where
  -- the command's answer was written
  answered : (answer : Answer) → IsShelfAnswer command names files answer → IsWritten answer old new outcome → IsShelfRun command names files old new outcome
  -- memory ran out, and nothing was written
  unanswered : new ≡ old → outcome ≡ outcome_of [] 4 → IsShelfRun command names files old new outcome
