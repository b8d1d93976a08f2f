use Rattle.std.proofs.Common.{◌∙◌, sym, subst, Option}
use Rattle.bib_words.specs.declared.commands.Command.{Command}
use Rattle.bib_c.specs.Calls.{Runs, journal_if}
use Rattle.bib_c.proofs.calls.run.Goals as goal

pub returns-in-Ok-Some : goal.returns-in-Ok-Some
returns-in-Ok-Some c =
    subst (λ (asked : Option Command). Runs asked c.args.file.now (journal_if c.args.has_journal c.args.journal.now) c.args.input.now c.run_command.result c.args.state.now c.run_command.new.state)
    (sym c.in-Ok-Some.field-0-is ∙ c.in-Ok-Some.ensures)
    c.run_command.ensures
