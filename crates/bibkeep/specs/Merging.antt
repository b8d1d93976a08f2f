-- How three files are merged.
use Rattle.std.specs.Prelude.{None}
use Rattle.bib_spec.specs.Text.{Text}
use Rattle.bib_words.specs.declared.commands.Command.{Command}
use Rattle.bib_answers.specs.declared.answers.Outcome.{Outcome}
use Rattle.bib_run.specs.Views.{TapView, fresh}
use Rattle.merge_run.specs.Runs.{IsMergeRun}

-- a run of `merge` over a common file, ours and theirs with these bytes, and over standard output, which tells nothing
pub record RanMerge (command : Command) (base ours theirs : Text) (outcome : Outcome) : Type 0 where
  pub now : TapView
  pub ran : IsMergeRun command base ours theirs (fresh None) now outcome
