use Rattle.bib_run.proofs.UpToJournal.{each_up_to}
use Rattle.bib_run.proofs.answering.answer_change.Goals as goal

pub returns-in-Insert : goal.returns-in-Insert
returns-in-Insert c = rw c.in-Insert.is (each_up_to c.args.no_journal _ c.answer_insert.result (rw c.words_after_file-words.ensures at c.answer_insert.ensures))
