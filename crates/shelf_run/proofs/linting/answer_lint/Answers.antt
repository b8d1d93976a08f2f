use Rattle.std.proofs.Common.{◌≡◌, ◌∙◌, List, [], slice_index_or, ap, subst}
use Rattle.std.proofs.lemmas.Result.{IfOk-weaker}
use Rattle.bib_spec.specs.Text.{Text}
use Rattle.bib_store.specs.Readings.{OfReading}
use Rattle.bib_shelf.specs.declared.joining.Joined.{Joined}
use Rattle.bib_shelf.proofs.Files.{files_are_in}
use Rattle.bib_shelf.proofs.Opens.{not_memory}
use Rattle.bib_answers.specs.Lint.{files_answer, IsFaultAnswer}
use Rattle.bib_answers.specs.NamedFiles.{NamedFiles}
use Rattle.shelf_run.specs.Answers.{linted, faulty}
use Rattle.shelf_run.proofs.linting.answer_lint.Goals as goal

pub new-files-requires : goal.new-files-requires
new-files-requires c = (
  c.requires.0,
  record {
    text = c.database-db.ensures ∙ ap (λ (j : Joined). j.text) c.in-Ok.ensures.opened ∙ (c.requires.1).text;
    spans = c.spans.ensures ∙ ap (λ (j : Joined). j.spans) c.in-Ok.ensures.opened ∙ (c.requires.1).spans;
  },
)

pub returns-in-Ok : goal.returns-in-Ok
returns-in-Ok c = IfOk-weaker c.lint_in.result _ _ (λ answer h files are.
    let accepted = c.in-Ok.ensures.files files are in
    let db = accepted.opens.0 in
    let same = c.database-db.ensures ∙ ap (λ (j : Joined). j.text) c.in-Ok.ensures.opened ∙ are.text in
    let named = c.new-files.ensures files (record { text = same; spans = c.spans.ensures ∙ ap (λ (j : Joined). j.spans) c.in-Ok.ensures.opened ∙ are.spans }) in
    linted db accepted.opens.1 accepted
    (subst (λ (t : Text). OfReading t (λ r. answer ≡ files_answer c.args.ignored.now c.args.cited.now c.new-files.result.names c.new-files.result.files r)) same h db accepted.opens.1.reads
    ∙ ap (λ (f : NamedFiles). files_answer c.args.ignored.now c.args.cited.now f.names f.files db) named))
    c.lint_in.ensures

pub returns-else-is_memory : goal.returns-else-is_memory
returns-else-is_memory c = IfOk-weaker c.lint_fault.result _ _ (λ answer h files are.
    let fault = c.in-Err.fault in
    let these = files_are_in files _ (record { text = c.as_slice-text.ensures ∙ are.text; spans = c.as_slice-spans.ensures ∙ are.spans }) in
    faulty fault.kind fault.place fault.file (not_memory fault.kind c.is_memory.result c.is_memory.ensures c.if-is_memory.false) (c.in-Err.ensures.fault files are)
    (subst (λ (name : Text). IsFaultAnswer name (slice_index_or files fault.file []) fault.kind fault.place answer) c.name_of.ensures
    (subst (λ (file : Text). IsFaultAnswer c.name_of.result.now file fault.kind fault.place answer) (c.file_in.ensures ∙ ap (λ (l : List Text). slice_index_or l fault.file []) these) h)))
    c.lint_fault.ensures
