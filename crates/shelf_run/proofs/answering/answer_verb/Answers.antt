use Rattle.std.proofs.Common.{List, sym, subst}
use Rattle.std.proofs.lemmas.Result.{IfOk-weaker}
use Rattle.bib_spec.specs.Text.{Text}
use Rattle.bib_words.specs.declared.verbs.Verb.{Verb}
use Rattle.aux_text.specs.declared.placing.AuxKeys.{AuxKeys}
use Rattle.shelf_run.specs.Answers.{ShelfAnswers, LintsShelf}
use Rattle.shelf_run.proofs.answering.answer_verb.Goals as goal

pub returns-in-Asks : goal.returns-in-Asks
returns-in-Asks c = IfOk-weaker c.answer_question.result _ _ (λ answer h texts are.
    subst (λ (v : Verb). ShelfAnswers v c.args.command.now c.args.names.now texts answer) (sym c.in-Asks.is) (h texts are))
    c.answer_question.ensures

pub returns-in-Lint : goal.returns-in-Lint
returns-in-Lint c = IfOk-weaker c.answer_lint.result _ _ (λ answer h texts are.
    subst (λ (v : Verb). ShelfAnswers v c.args.command.now c.args.names.now texts answer) (sym c.in-Lint.is)
    (subst (λ (ignored : List Text). LintsShelf ignored c.args.command.now.cited c.args.names.now texts answer) c.words_after_file-ignored.ensures
    (subst (λ (cited : List AuxKeys). LintsShelf c.words_after_file-ignored.result.now cited c.args.names.now texts answer) c.as_slice.ensures (h texts are))))
    c.answer_lint.ensures

pub returns-in-Names : goal.returns-in-Names
returns-in-Names c = IfOk-weaker c.answer_names.result _ _ (λ answer h texts are.
    subst (λ (v : Verb). ShelfAnswers v c.args.command.now c.args.names.now texts answer) (sym c.in-Names.is) (h texts are))
    c.answer_names.ensures
