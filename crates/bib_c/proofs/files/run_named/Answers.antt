use Rattle.std.proofs.Common.{◌≡◌, sym, subst, List, Option, Some}
use Rattle.bib_spec.specs.Text.{Text}
use Rattle.bib_c.specs.Words.{words_of}
use Rattle.bib_c.specs.Calls.{RunsFiles}
use Rattle.bib_c.proofs.files.run_named.Goals as goal

pub returns-in-Ok-Some : goal.returns-in-Ok-Some
returns-in-Ok-Some c =
    let flat : words_of c.args.names.now c.args.name_lens.now ≡ Some c.as_slice.result.now = cc (c.in-Ok-Some.ensures, c.in-Ok-Some.field-0-is, c.as_slice.ensures) in
    subst (λ (names : Option (List Text)). RunsFiles (Some c.args.command.now) names (words_of c.args.files.now c.args.file_lens.now) c.run_texts.result c.args.state.now c.run_texts.new.state)
    (sym flat) c.run_texts.ensures
