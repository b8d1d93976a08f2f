-- How a command is run over several files, and over two.
use Rattle.std.specs.Prelude.{ℕ, ◌≡◌, List, ◌++◌, take, None}
use Rattle.bib_spec.specs.Text.{Text}
use Rattle.bib_words.specs.declared.commands.Command.{Command}
use Rattle.bib_answers.specs.declared.answers.Outcome.{Outcome}
use Rattle.bib_run.specs.declared.reading.Sources.{Sources}
use Rattle.bib_run.specs.Runs.{IsRunOver}
use Rattle.bib_run.specs.Views.{TapView, fresh}
use Rattle.shelf_run.specs.Runs.{IsShelfRun}

-- the names of all files of a command, in the order in which they are read: those before its own, its own, and those after it
abbrev pub all_names : Command → List Text
all_names command = command.before ++ (take 1 command.words ++ command.after)

-- A run of the command over all its files, and over standard output, which tells nothing. What the files hold is not told.
pub record RanTogether (command : Command) (outcome : Outcome) : Type 0 where
  pub texts : List Text
  pub now : TapView
  pub ran : IsShelfRun command (all_names command) texts (fresh None) now outcome

-- the command was run over all its files, and this is the status of the run
pub record EndsTogether (command : Command) (status : ℕ) : Type 0 where
  pub outcome : Outcome
  pub ran : RanTogether command outcome
  pub is : status ≡ outcome.status

-- A run of the command over an old file, as its file, and a new one, as its input, which were read, and over standard output, which
-- tells nothing.
pub record RanBetween (command : Command) (sources : Sources) (outcome : Outcome) : Type 0 where
  pub now : TapView
  pub ran : IsRunOver command sources (fresh None) now outcome

-- the command was run over the two files, and this is the status of the run
pub record EndsBetween (command : Command) (sources : Sources) (status : ℕ) : Type 0 where
  pub outcome : Outcome
  pub ran : RanBetween command sources outcome
  pub is : status ≡ outcome.status
