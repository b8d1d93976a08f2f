use Rattle.std.proofs.Common.{◌∙◌, sym, subst, Option}
use Rattle.bib_words.specs.declared.commands.Command.{Command}
use Rattle.bib_c.specs.Words.{words_of}
use Rattle.bib_c.specs.Calls.{RunsFiles}
use Rattle.bib_c.proofs.files.run_files.Goals as goal

pub returns-in-Ok-Some : goal.returns-in-Ok-Some
returns-in-Ok-Some c =
    subst (λ (asked : Option Command). RunsFiles asked (words_of c.args.names.now c.args.name_lens.now) (words_of c.args.files.now c.args.file_lens.now) c.run_named.result c.args.state.now c.run_named.new.state)
    (sym c.in-Ok-Some.field-0-is ∙ c.in-Ok-Some.ensures)
    c.run_named.ensures
