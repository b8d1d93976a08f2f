-- What each command answers to the bytes of its sources.
use Rattle.std.specs.Prelude.{◌≡◌, ◌≢◌, true, false, List, [], length, drop, slice_index_or, codes, Option, IsSomeAnd}
use Rattle.bib_spec.specs.Text.{Text}
use Rattle.bib_spec.specs.Reading.{Reading}
use Rattle.bib_words.specs.declared.commands.Command.{Command}
use Rattle.bib_words.specs.declared.verbs.Question.{Question}
use Rattle.bib_words.specs.declared.verbs.Question.TheVariants.{Check, Show, Entry, Cite, Labels, Json, NewKeys, Ris, Extract}
use Rattle.bib_words.specs.declared.verbs.Verb.{Verb}
use Rattle.bib_words.specs.declared.verbs.Verb.TheVariants.{Asks, Cat, Lint, Names, Explain, Edit, Undo, Redo, Log, Forget, Import, Insert, Merge, Diff}
use Rattle.bib_words.specs.Verbs.{verb_of}
use Rattle.bib_answers.specs.declared.answers.Answer.{Answer}
use Rattle.bib_answers.specs.Cat.{IsCatAnswer}
use Rattle.bib_answers.specs.Opened.{AnswersFile}
use Rattle.bib_answers.specs.Check.{check_answer}
use Rattle.bib_answers.specs.Show.{show_answer}
use Rattle.bib_answers.specs.Entry.{entry_answer}
use Rattle.bib_answers.specs.Cite.{cite_answer}
use Rattle.bib_answers.specs.Labels.{labels_answer}
use Rattle.bib_answers.specs.Raw.{json_answer}
use Rattle.bib_answers.specs.NewKeys.{newkeys_answer}
use Rattle.bib_answers.specs.Extract.{extract_answer}
use Rattle.bib_answers.specs.Lint.{IsLintAnswer}
use Rattle.bib_run.specs.Explaining.{IsExplainAnswer}
use Rattle.bib_run.specs.Ris.{ris_answer}
use Rattle.bib_answers.specs.Names.{IsNamesAnswer}
use Rattle.bibtex_answers.specs.Opened.{AnswersAsBibtex}
use Rattle.bibtex_answers.specs.Show as bibtex_show
use Rattle.bibtex_answers.specs.Cite as bibtex_cite
use Rattle.bibtex_answers.specs.Records as bibtex_records
use Rattle.bibtex_answers.specs.Names as bibtex_names
use Rattle.bibtex_answers.specs.Labels as bibtex_labels
use Rattle.bibtex_ris.specs.Ris as bibtex_texts
use Rattle.bib_data.specs.declared.request.Request.TheVariants as request
use Rattle.bib_run.specs.EditAnswer.{IsEditAnswer, IsWordsAnswer, whole}
use Rattle.bib_run.specs.ImportAnswer.{IsImportAnswer}
use Rattle.bib_run.specs.InsertAnswer.{IsInsertAnswer}
use Rattle.bib_run.specs.Turns.{IsTurnAnswer}
use Rattle.bib_run.specs.Log.{IsLogAnswer, IsForgetAnswer}
use Rattle.bib_run.specs.Apart.{apart_answer}
use Rattle.bib_run.specs.Shown.{shown, kept_with}
use Rattle.diff_answers.specs.Answers.{IsDiffAnswer}

-- the first word: the name of the file, for `diff` of the old one, or for `explain` the fault
abbrev pub first_word : Command → Text
first_word command = slice_index_or command.words 0 []

-- the word after the file, for `diff` the name of the new one
abbrev pub key_word : Command → Text
key_word command = slice_index_or command.words 1 []

-- the second word after the file
abbrev pub template_word : Command → Text
template_word command = slice_index_or command.words 2 []

-- the words after the file
abbrev pub key_words : Command → List Text
key_words command = drop 1 command.words

-- what a command answers to what its file says
abbrev pub question_answer : Question → Command → Reading → Answer
question_answer Check command = check_answer
question_answer Show command = show_answer command.depth (key_word command)
question_answer Entry command = entry_answer command.at (key_words command)
question_answer Cite command = cite_answer command.strict (key_words command) command.n
question_answer Labels command = labels_answer command.depth (key_words command)
question_answer Json command = json_answer command.raw command.depth (key_words command)
question_answer NewKeys command = newkeys_answer command.depth
question_answer Ris command = ris_answer command.dropped command.plain command.depth (key_words command)
question_answer Extract command = extract_answer (key_words command)

-- what a command answers to its file with `--bibtex`; the other commands do not take the option
abbrev pub AnswersBibtex : Question → Command → Text → Answer → Type 0
AnswersBibtex Show command = AnswersAsBibtex (bibtex_show.show_answer (key_word command))
AnswersBibtex Cite command = AnswersAsBibtex (bibtex_cite.cite_answer command.strict (key_words command) command.n)
AnswersBibtex Json command = AnswersAsBibtex (bibtex_records.json_answer (key_words command))
AnswersBibtex Labels command = AnswersAsBibtex (bibtex_labels.labels_answer (key_words command))
AnswersBibtex Ris command = AnswersAsBibtex (bibtex_texts.ris_answer command.dropped command.plain (key_words command))
AnswersBibtex _ command = λ file answer. ⊥

-- what a command answers to its file: to what the file says, or with `--bibtex` to what BibTeX reads in it
pub data AnswersQuestion (question : Question) (command : Command) (file : Text) (answer : Answer) : Type 0 where
  as_ever : command.bibtex ≡ false → AnswersFile (question_answer question command) file answer → AnswersQuestion question command file answer
  as_bibtex : command.bibtex ≡ true → AnswersBibtex question command file answer → AnswersQuestion question command file answer

-- what `names` answers to its file: to what the file says, or with `--bibtex` to what BibTeX reads in it
pub data AnswersNames (command : Command) (file : Text) (answer : Answer) : Type 0 where
  names_as_ever : command.bibtex ≡ false → IsNamesAnswer command.depth (key_word command) (template_word command) file answer → AnswersNames command file answer
  names_as_bibtex : command.bibtex ≡ true → AnswersAsBibtex (bibtex_names.names_answer (key_word command) (template_word command)) file answer → AnswersNames command file answer

-- what `edit` answers: to a script, or to the words of one edit if words follow the file
pub data IsEditsAnswer (command : Command) (file : Text) (journal : Option Text) (input : Text) (answer : Answer) : Type 0 where
  script : length command.words ≡ 1 → IsEditAnswer command.new_journal file journal input answer → IsEditsAnswer command file journal input answer
  words : length command.words ≢ 1 → IsWordsAnswer command.new_journal (key_words command) file journal answer → IsEditsAnswer command file journal input answer

-- what `edit` answers, with `--all-or-nothing` or without
pub record IsWholeAnswer (command : Command) (file : Text) (journal : Option Text) (input : Text) (answer : Answer) : Type 0 where
  pub made : Answer
  pub edits : IsEditsAnswer command file journal input made
  pub whole : answer ≡ whole command.all_or_nothing made

-- what each command answers to a file, and to its journal and its input if it reads them, when what is new is to be stored
abbrev pub Answers : Verb → Command → Text → Option Text → Text → Answer → Type 0
Answers (Asks question) command file journal input = AnswersQuestion question command file
Answers Cat command file journal input = IsCatAnswer file
Answers Lint command file journal input = IsLintAnswer (key_words command) command.cited (first_word command) file
Answers Names command file journal input = AnswersNames command file
Answers Explain command file journal input = IsExplainAnswer (first_word command)
Answers Edit command file journal input = IsWholeAnswer command file journal input
Answers Import command file journal input = IsImportAnswer command file journal input
Answers Insert command file journal input = IsInsertAnswer command.new_journal (key_words command) file journal input
Answers Diff command file journal input = IsDiffAnswer (first_word command) (key_word command) file input
Answers Undo command file journal input = IsTurnAnswer (codes "undone") request.Undo command.n file journal
Answers Redo command file journal input = IsTurnAnswer (codes "redone") request.Redo command.n file journal
Answers Log command file journal input = IsLogAnswer file journal
Answers Forget command file journal input = IsForgetAnswer file
Answers Merge command file journal input = λ answer. answer ≡ apart_answer

-- the answer of a command of the program, when what is new is to be stored
abbrev pub IsStoredAnswer : Command → Text → Option Text → Text → Answer → Type 0
IsStoredAnswer command file journal input answer = IsSomeAnd (verb_of command.name) (λ verb. Answers verb command file journal input answer)

-- the answer of a command to a file, and to its journal and its input if it reads them; with `--no-journal` no journal is stored,
-- and with `--print` the new file is its output
pub record IsAnswer (command : Command) (file : Text) (journal : Option Text) (input : Text) (answer : Answer) : Type 0 where
  pub stored : Answer
  pub answers : IsStoredAnswer command file journal input stored
  pub shown : answer ≡ shown command.print (kept_with command.no_journal stored)
