use Rattle.bib_run.proofs.answering.answer_as_bibtex.Goals as goal

pub returns-in-Show : goal.returns-in-Show
returns-in-Show c = rw c.in-Show.is (rw c.word.ensures at c.answer_show_as_bibtex.ensures)

pub returns-in-Cite : goal.returns-in-Cite
returns-in-Cite c = rw c.in-Cite.is (rw c.words_after_file-keys.ensures at c.answer_cite_as_bibtex.ensures)

pub returns-in-Labels : goal.returns-in-Labels
returns-in-Labels c = rw c.in-Labels.is (rw c.words_after_file.ensures at c.answer_labels_as_bibtex.ensures)

pub returns-in-Json : goal.returns-in-Json
returns-in-Json c = rw c.in-Json.is (rw c.words_after_file-in-Json.ensures at c.answer_json_as_bibtex.ensures)

pub returns-in-Ris : goal.returns-in-Ris
returns-in-Ris c = rw c.in-Ris.is (rw c.words_after_file-keys-in-Ris.ensures at c.answer_ris_as_bibtex.ensures)
