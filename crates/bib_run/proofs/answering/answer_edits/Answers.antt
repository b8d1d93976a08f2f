use Rattle.bib_run.proofs.Words.{◌≡◌, ◌≢◌, length, rules, IfOk-weaker}
use Rattle.bib_run.specs.Answers.{script, words}
use Rattle.bib_run.proofs.UpToJournal.{up_to-weaker}
use Rattle.bib_run.proofs.answering.answer_edits.Goals as goal

pub returns-then-as_slice-eq1 : goal.returns-then-as_slice-eq1
returns-then-as_slice-eq1 c =
    let alone : length c.args.command.now.words ≡ 1 = search rules in
    IfOk-weaker c.answer_edit.result _ _ (λ given h. up_to-weaker c.args.no_journal _ _ given (λ answer is. script alone is) h) c.answer_edit.ensures

pub returns : goal.returns
returns c =
    let worded : length c.args.command.now.words ≢ 1 = search rules in
    IfOk-weaker c.answer_words.result _ _ (λ given h. up_to-weaker c.args.no_journal _ _ given (λ answer is. words worded is) h) (rw c.words_after_file.ensures at c.answer_words.ensures)
