-- How a run ends: its sources are read, the answer to them is made, and the answer is written.
use Rattle.std.specs.Prelude.{◌≡◌, [], Option, option_map}
use Rattle.bib_spec.specs.Text.{Text}
use Rattle.bib_words.specs.declared.commands.Command.{Command}
use Rattle.bib_answers.specs.declared.answers.Outcome.{Outcome}
use Rattle.bib_answers.specs.declared.answers.Answer.{Answer}
use Rattle.bib_answers.specs.Outcome.{outcome_of}
use Rattle.bib_run.specs.declared.reading.Sources.{Sources}
use Rattle.bib_run.specs.Answers.{IsAnswer}
use Rattle.bib_run.specs.Sources.{SourcesView, sources, Hold, EndsUnread}
use Rattle.bib_run.specs.Written.{IsWritten}
pub use Rattle.bib_run.specs.Views.{TapView, view_of, fresh}

-- the taps of a run at one moment
pub record TapsView : Type 0 where
  pub sources : SourcesView
  pub out : TapView

-- the taps of a run, from those of its file, its journal, its input and its output
abbrev pub taps : TapView → Option TapView → TapView → TapView → TapsView
taps file journal input out = record { sources = sources file journal input; out = out }

-- How a run of a command ends, by its taps before and after it, and its outcome. (dialect)
pub data IsRun (command : Command) (old new : TapsView) (outcome : Outcome) : Type 0 where
  -- the sources hold these bytes, and the command's answer to them was written
  answered : (bytes : Sources) (answer : Answer) → Hold command old.sources new.sources bytes
      → IsAnswer command bytes.file bytes.journal bytes.input answer → IsWritten answer old.out new.out outcome → IsRun command old new outcome
  -- the sources were read, memory ran out, and nothing was written
  unanswered : (bytes : Sources) → Hold command old.sources new.sources bytes → new.out ≡ old.out → outcome ≡ outcome_of [] 4 → IsRun command old new outcome
  -- the sources were not read, and nothing was written
  unread : EndsUnread old.sources new.sources outcome → new.out ≡ old.out → IsRun command old new outcome

-- How a run of a command over sources that were read before ends, by the tap of its output before and after it, and its outcome. (dialect)
pub data IsRunOver (command : Command) (bytes : Sources) (old new : TapView) (outcome : Outcome) : Type 0 where
  -- the command's answer to these bytes was written
  answered : (answer : Answer) → IsAnswer command bytes.file bytes.journal bytes.input answer → IsWritten answer old new outcome → IsRunOver command bytes old new outcome
  -- memory ran out, and nothing was written
  unanswered : new ≡ old → outcome ≡ outcome_of [] 4 → IsRunOver command bytes old new outcome

-- a run of the command over new taps: of a file and a journal that tell these bytes, and of some input and some output
pub record RanOver (command : Command) (file : Option Text) (journal : Option (Option Text)) (outcome : Outcome) : Type 0 where
  pub input : Option Text
  pub out : Option Text
  pub now : TapsView
  pub ran : IsRun command (taps (fresh file) (option_map fresh journal) (fresh input) (fresh out)) now outcome
