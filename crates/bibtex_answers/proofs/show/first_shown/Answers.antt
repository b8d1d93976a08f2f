use Rattle.std.proofs.Common.{◌∙◌, [], ap}
use Rattle.bib_spec.specs.Text.{Text}
use Rattle.bib_spec.specs.Records.{entries_of}
use Rattle.bib_answers.specs.Outcome.{answer_of}
use Rattle.bibtex_answers.proofs.ListAnswers.{shown_first}
use Rattle.bibtex_answers.proofs.show.first_shown.Goals as goal

pub returns-in_ok-entry_text-in-Some : goal.returns-in_ok-entry_text-in-Some
returns-in_ok-entry_text-in-Some c r reads records have =
    shown_first (entries_of r) c.args.list.now records c.in-Some.entry.now c.in_ok-entry_text-in-Some.field-0.items c.done.result have c.in-Some.ensures.value (c.in_ok-entry_text-in-Some.ensures r reads)
    (c.done.ensures ∙ ap (λ (t : Text). answer_of t [] 0) c.from_vec.ensures)
