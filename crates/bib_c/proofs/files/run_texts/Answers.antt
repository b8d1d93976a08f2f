use Rattle.std.proofs.Common.{◌≡◌, sym, subst, List, Option, Some}
use Rattle.bib_spec.specs.Text.{Text}
use Rattle.bib_c.specs.Words.{words_of}
use Rattle.bib_c.specs.Calls.{RunsFiles}
use Rattle.bib_c.proofs.files.run_texts.Goals as goal

pub returns-in-Ok-Some : goal.returns-in-Ok-Some
returns-in-Ok-Some c =
    let flat : words_of c.args.files.now c.args.file_lens.now ≡ Some c.as_slice.result.now = cc (c.in-Ok-Some.ensures, c.in-Ok-Some.field-0-is, c.as_slice.ensures) in
    subst (λ (files : Option (List Text)). RunsFiles (Some c.args.command.now) (Some c.args.names.now) files c.run_over.result c.args.state.now c.run_over.new.state)
    (sym flat) c.run_over.ensures
