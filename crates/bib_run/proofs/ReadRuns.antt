-- A run over sources that were read, as a run over the sources.
use Rattle.bib_run.proofs.Words.{Command}
use Rattle.bib_answers.specs.declared.answers.Outcome.{Outcome}
use Rattle.bib_run.specs.declared.reading.Sources.{Sources}
use Rattle.bib_run.specs.Runs.{IsRun, IsRunOver}
use Rattle.bib_run.specs.Sources.{SourcesView, HasRead}
use Rattle.bib_run.specs.Views.{TapView}
use Rattle.bib_run.proofs.WholeFile.{IsAnswer-fronts}

-- the answer to what was read of the sources is the answer to what they hold
pub ran_over : (command : Command) (old new : SourcesView) (kept : Sources) (before after : TapView) (outcome : Outcome) → HasRead command old new kept
    → IsRunOver command kept before after outcome → IsRun command (record { sources = old; out = before }) (record { sources = new; out = after }) outcome
ran_over command old new kept before after outcome has (IsRunOver.answered answer is written) =
    IsRun.answered has.bytes answer has.hold (IsAnswer-fronts command has.bytes kept answer has.kept_is is) written
ran_over command old new kept before after outcome has (IsRunOver.unanswered same is) = IsRun.unanswered has.bytes has.hold same is
