use Rattle.std.proofs.Common.{◌≡◌, ◌∙◌, ◌-◌, ap, sym, subst}
use Rattle.std.proofs.lemmas.Result.{IfOk-weaker}
use Rattle.bib_spec.specs.Text.{Text}
use Rattle.bib_store.specs.Readings.{OfReading}
use Rattle.bib_words.specs.declared.verbs.Question.{Question}
use Rattle.bib_answers.specs.Check.{check_answer_without}
use Rattle.shelf_run.specs.Answers.{shelf_answer}
use Rattle.shelf_run.proofs.Shelves.{spans_counted}
use Rattle.shelf_run.proofs.answering.question_answer.Goals as goal

pub returns-in-Check : goal.returns-in-Check
returns-in-Check c = IfOk-weaker c.check_in.result _ _ (λ answer h texts are r reads.
    subst (λ (t : Text). OfReading t (λ r. answer ≡ check_answer_without c.saturating_sub.result r)) c.database-db.ensures h r reads
    ∙ ap (λ n. check_answer_without n r) (c.saturating_sub.ensures ∙ ap (λ n. n - 1) (c.file_count.ensures ∙ spans_counted texts c.args.shelf.now are))
    ∙ ap (λ (q : Question). shelf_answer q c.args.command.now c.args.names.now texts r) (sym c.in-Check.is))
    c.check_in.ensures
