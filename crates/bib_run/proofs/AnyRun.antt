-- Any run of the program, and what it leaves on the disk.
use Rattle.bib_run.proofs.Words.{◌≡◌, ℕ, Bool, true, false, ◌==◌, List, [], length, take, replicate, codes, Option, Some, None, refl, sym, ◌∙◌, ap, subst, false≢true, none-some, file_limit, Text, Reading}
use Rattle.bib_run.proofs.Words.{KeptSteps, Request, SessionFault, Saved, SessionState, Opens, IsOpened, opened_is_sound, Additions, said_of, Command, Answer, answer_of, IsAnswer, IsCatAnswer, IsLintAnswer, AnswersFile, first_word, key_words, shown}
use Rattle.bib_run.proofs.Words.{IsUnfit, OpensWith, outcome_after, AnswersSession, AnswersInput, HasEdited, HasEditedBy, HasEditedByWords, edited_answer, stop_line, HasAdded, HasImported, IsTurnAnswer, IsLogAnswer, IsForgetAnswer}
use Rattle.std.proofs.Common.{ap₂, ⊎_elim, Result, Ok, Err, not, ◌&&◌, if◌then◌else◌, IsSomeAnd, ◌∷◌, unwrap_or, option_and_then, map, filter_map, find, nat_lt}
use Rattle.std.specs.Option.{option_map_or}
use Rattle.std.proofs.lemmas.Bool.{cases_Bool, cond-true, cond-false, and_parts}
use Rattle.bib_spec.specs.Reading.{bytes_of}
use Rattle.bib_spec.specs.Records.{Record, EntryTexts, entries_of, entry_named, expanded, unknown}
use Rattle.history_spec.specs.Steps.{IsSound}
use Rattle.bib_data.specs.declared.position.Position.{Position}
use Rattle.bib_data.specs.declared.request.Request.TheVariants as request
use Rattle.aux_text.specs.declared.placing.AuxKeys.{AuxKeys}
use Rattle.bib_names.specs.Template.{Pattern}
use Rattle.bib_names.specs.declared.fault.NameFault.{NameFault}
use Rattle.bib_names.specs.declared.fault.NameFault.TheVariants.{BadTemplate}
use Rattle.extract_spec.specs.Extract.{extract_of}
use Rattle.bib_answers.specs.Cite.{cite_status}
use Rattle.bib_answers.specs.Cited.{all_cited, cited_answer, default_min}
use Rattle.bib_answers.specs.Entry.{all_named}
use Rattle.bib_answers.specs.Extract.{answer_unless}
use Rattle.bib_answers.specs.Json as json
use Rattle.bib_answers.specs.Labels.{label_lines}
use Rattle.bib_answers.specs.Names.{IsNamesAnswer, lines_answer, lines_of, names_answer, persons, record_answer}
use Rattle.bib_answers.specs.Raw.{is_raw_in_utf8, json_answer, raw_in, raw_in_key, raw_in_line}
use Rattle.bibtex_spec.specs.Listed.{ListedRecord, listed_as_bibtex}
use Rattle.bibtex_spec.specs.ListLaws.{bare}
use Rattle.bibtex_spec.specs.Places.{is_star}
use Rattle.bibtex_spec.specs.Plain.{not_plain}
use Rattle.bibtex_places.specs.Lists.{is_too_deep, unknown_places}
use Rattle.bibtex_answers.specs.Cite as bibtex_cite
use Rattle.bibtex_answers.specs.Labels as bibtex_labels
use Rattle.bibtex_answers.specs.Listed.{listed_answer}
use Rattle.bibtex_answers.specs.Names as bibtex_names
use Rattle.bibtex_answers.specs.Opened.{AnswersAsBibtex, if_plain}
use Rattle.bibtex_answers.specs.Records as bibtex_records
use Rattle.bibtex_answers.specs.Show as bibtex_show
use Rattle.bibtex_ris.specs.Ris as bibtex_texts
use Rattle.diff_answers.specs.Answers.{IsDiffAnswer}
use Rattle.bib_journal.specs.Runs.{OnDisk}
use Rattle.bib_journal.specs.Session.{started}
use Rattle.bib_journal.proofs.SeveralRuns.{left_opens}
use Rattle.bib_words.specs.declared.verbs.Question.{Question}
use Rattle.bib_words.specs.declared.verbs.Question.TheVariants.{Check, Show, Entry, Cite, Labels, Json, NewKeys, Ris, Extract}
use Rattle.bib_words.specs.declared.verbs.Verb.{Verb}
use Rattle.bib_words.specs.declared.verbs.Verb.TheVariants.{Asks, Cat, Lint, Names, Explain, Edit, Import, Insert, Merge, Diff, Undo, Redo, Log, Forget}
use Rattle.bib_words.specs.Verbs.{verb_of, reads_journal}
use Rattle.bib_run.specs.Answers.{Answers, AnswersBibtex, AnswersNames, AnswersQuestion, IsEditsAnswer, IsStoredAnswer, IsWholeAnswer, key_word, question_answer, template_word}
use Rattle.bib_run.specs.EditAnswer.{edits_in, taken_back}
use Rattle.bib_run.specs.Explaining.{IsExplainAnswer}
use Rattle.bib_run.specs.ImportAnswer.{added_answer, import_told}
use Rattle.bib_run.specs.InsertAnswer.{HasInserted, HasPutIn, HasPutNews, inserted_answer}
use Rattle.bib_run.specs.Ris.{ris_told}
use Rattle.bib_run.specs.Shown.{kept_with}
use Rattle.bib_run.specs.StoredRuns.{or_old, stored, Requests, Call, IsSession}
use Rattle.bib_run.specs.AnyRun.{ReadsOfJournal, IsProgramRun, KeepsHistory, any_run_keeps_the_history, a_printed_run_leaves_the_disk}
use Rattle.bib_run.proofs.StoredRuns.{asked, edit_run, import_run, insert_run, turn_run, words_run}

-- ---- answers that leave nothing

-- neither file nor journal is stored
pub record LeavesNothing (answer : Answer) : Type 0 where
  pub file : answer.outcome.file ≡ None
  pub journal : answer.outcome.journal ≡ None

-- the disk with this file, if there is one, and this journal, if there is one
abbrev stored_as : OnDisk → Option Text → Option Text → OnDisk
stored_as old new_file new_journal = record { file = unwrap_or new_file old.file; journal = or_old new_journal old.journal }

as_before : (old : OnDisk) (answer : Answer) → LeavesNothing answer → stored old answer.outcome ≡ old
as_before old answer none = ap₂ (stored_as old) none.file none.journal

still : (call : Call) (old new : OnDisk) (answer : Answer) → LeavesNothing answer → new ≡ stored old answer.outcome → KeepsHistory call old new
still call old new answer none stores = KeepsHistory.still (stores ∙ as_before old answer none)

plain : (output message : Text) (status : ℕ) → LeavesNothing (answer_of output message status)
plain output message status = record { file = refl; journal = refl }

alike : (a b : Answer) → a ≡ b → LeavesNothing b → LeavesNothing a
alike a b is none = subst LeavesNothing (sym is) none

said : (answer : Answer) (output message : Text) (status : ℕ) → answer ≡ answer_of output message status → LeavesNothing answer
said answer output message status is = alike answer (answer_of output message status) is (plain output message status)

found : {X : Type 0} (f : X → Answer) (one : Option X) (other : Answer) → ((x : X) → LeavesNothing (f x)) → LeavesNothing other → LeavesNothing (option_map_or f one other)
found f None other each none = none
found f (Some x) other each none = each x

either : (b : Bool) (one other : Answer) → LeavesNothing one → LeavesNothing other → LeavesNothing (if b then one else other)
either true one other none none' = none
either false one other none none' = none'

-- ---- commands that answer what the file says

cited_leaves : (told : List EntryTexts → List ℕ → Text) (keys : List Text) (db : Reading) → LeavesNothing (cited_answer told keys db)
cited_leaves told keys db = found _ (all_cited (entries_of db) keys) _ (λ list. plain _ _ _) (plain _ _ _)

told_leaves : {T : Type 0} (is_utf8 : T → Bool) (key line : T → Text) (told : List T) → LeavesNothing (json.lines_answer is_utf8 key line told)
told_leaves is_utf8 key line told = found _ (find (λ one. not (is_utf8 one)) told) _ (λ one. plain _ _ _) (plain _ _ _)

json_leaves : (raw : Bool) (depth : ℕ) (keys : List Text) (db : Reading) → LeavesNothing (json_answer raw depth keys db)
json_leaves true depth keys db =
    found _ (all_cited (entries_of db) keys) _ (λ list. told_leaves is_raw_in_utf8 raw_in_key raw_in_line (filter_map (raw_in depth None db) list)) (plain _ _ _)
json_leaves false depth keys db =
    found _ (all_cited (entries_of db) keys) _ (λ list. told_leaves json.is_told_in_utf8 json.told_key json.told_line (json.told_of depth (entries_of db) (json.file_of None db) list)) (plain _ _ _)

extract_leaves : (places : List ℕ) (keys : List Text) (text : Text) → LeavesNothing (answer_unless places keys text)
extract_leaves [] keys text = either (nat_lt file_limit (length text)) _ _ (plain _ _ _) (plain _ _ _)
extract_leaves (place ∷ places) keys text = plain _ _ _

question_leaves : (question : Question) (command : Command) (db : Reading) → LeavesNothing (question_answer question command db)
question_leaves Check command db = plain _ _ _
question_leaves Show command db = found _ (entry_named (entries_of db) (key_word command)) _ (λ n. plain _ _ _) (plain _ _ _)
question_leaves Entry command db = found _ (all_named (entries_of db) (key_words command)) _ (λ list. plain _ _ _) (plain _ _ _)
question_leaves Cite command db = plain _ _ _
question_leaves Labels command db = cited_leaves (label_lines command.depth) (key_words command) db
question_leaves Json command db = json_leaves command.raw command.depth (key_words command) db
question_leaves NewKeys command db = plain _ _ _
question_leaves Ris command db = cited_leaves (ris_told command.dropped command.plain command.depth) (key_words command) db
question_leaves Extract command db = extract_leaves (unknown (entries_of db) (key_words command)) (key_words command) (bytes_of (extract_of db (key_words command)))

file_leaves : (answers : Reading → Answer) (file : Text) (answer : Answer) → ((db : Reading) → LeavesNothing (answers db)) → AnswersFile answers file answer → LeavesNothing answer
file_leaves answers file answer none (AnswersFile.opened db opens is) = alike answer (answers db) is (none db)
file_leaves answers file answer none (AnswersFile.refused kind place told fault is) = said answer _ _ _ is

lines_leave : (lines : Result Text NameFault) → LeavesNothing (lines_answer lines)
lines_leave (Ok lines) = plain _ _ _
lines_leave (Err fault) = plain _ _ _

-- ---- with `--bibtex`

listed_leaves : (told : List ListedRecord → Answer) (entries : List EntryTexts) (keys : List Text) (least : ℕ) → ((list : List ListedRecord) → LeavesNothing (told list))
    → LeavesNothing (listed_answer told entries keys least)
listed_leaves told entries keys least none = either (is_too_deep entries keys least) _ _ (plain _ _ _) (none (listed_as_bibtex entries keys least))

first_leaves : (list : List ListedRecord) → LeavesNothing (bibtex_show.first_shown list)
first_leaves [] = plain _ _ _
first_leaves (r ∷ rs) = plain _ _ _

unless_leaves : (told : List ListedRecord → Answer) (places : List ℕ) (list : List ListedRecord) → LeavesNothing (told list) → LeavesNothing (bibtex_records.unless_unknown told places list)
unless_leaves told [] list none = none
unless_leaves told (place ∷ places) list none = plain _ _ _

records_leave : (told : List ListedRecord → Answer) (keys : List Text) (db : Reading) → ((list : List ListedRecord) → LeavesNothing (told list))
    → LeavesNothing (bibtex_records.records_answer told keys db)
records_leave told keys db none =
    listed_leaves (bibtex_records.unless_unknown told (unknown_places (entries_of db) keys)) (entries_of db) keys default_min
    (λ list. unless_leaves told (unknown_places (entries_of db) keys) list (none list))

bibtex_leaves : (answers : Reading → Answer) (file : Text) (answer : Answer) → ((db : Reading) → LeavesNothing (answers db)) → AnswersAsBibtex answers file answer → LeavesNothing answer
bibtex_leaves answers file answer none (AnswersAsBibtex.opened db opens is) =
    alike answer (if_plain answers db) is (found _ (not_plain db) _ (λ place. plain _ _ _) (none db))
bibtex_leaves answers file answer none (AnswersAsBibtex.refused kind place other at told why past fault is) = said answer _ _ _ is

labels_leave : (records : List Record) → LeavesNothing (bibtex_labels.labels_told records)
labels_leave records = search (lines_leave)

asked_bibtex_leaves : (question : Question) (command : Command) (file : Text) (answer : Answer) → AnswersBibtex question command file answer → LeavesNothing answer
asked_bibtex_leaves Show command file answer is =
    bibtex_leaves (bibtex_show.show_answer (key_word command)) file answer
    (λ db. either (is_star (key_word command)) _ _ (plain _ _ _) (listed_leaves bibtex_show.first_shown (entries_of db) (key_word command ∷ []) 1 first_leaves)) is
asked_bibtex_leaves Cite command file answer is =
    bibtex_leaves (bibtex_cite.cite_answer command.strict (key_words command) command.n) file answer
    (λ db. let places = unknown_places (entries_of db) (key_words command) in
    listed_leaves (λ list. answer_of (bibtex_cite.listed_lines (key_words command) places list) [] (cite_status command.strict places)) (entries_of db) (key_words command) command.n
    (λ list. plain _ _ _)) is
asked_bibtex_leaves Json command file answer is =
    bibtex_leaves (bibtex_records.json_answer (key_words command)) file answer
    (λ db. records_leave (λ list. json.told_answer (map bibtex_records.told_record list)) (key_words command) db
    (λ list. told_leaves json.is_told_in_utf8 json.told_key json.told_line (map bibtex_records.told_record list))) is
asked_bibtex_leaves Labels command file answer is =
    bibtex_leaves (bibtex_labels.labels_answer (key_words command)) file answer
    (λ db. records_leave (λ list. bibtex_labels.labels_told (map bare list)) (key_words command) db (λ list. labels_leave (map bare list))) is
asked_bibtex_leaves Ris command file answer is =
    bibtex_leaves (bibtex_texts.ris_answer command.dropped command.plain (key_words command)) file answer
    (λ db. records_leave (λ list. answer_of (bibtex_texts.ris_told command.dropped command.plain (map bare list)) [] 0) (key_words command) db (λ list. plain _ _ _)) is
asked_bibtex_leaves Check command file answer is = absurd is
asked_bibtex_leaves Entry command file answer is = absurd is
asked_bibtex_leaves NewKeys command file answer is = absurd is
asked_bibtex_leaves Extract command file answer is = absurd is

asked_leaves : (question : Question) (command : Command) (file : Text) (answer : Answer) → AnswersQuestion question command file answer → LeavesNothing answer
asked_leaves question command file answer (AnswersQuestion.as_ever off is) = file_leaves (question_answer question command) file answer (question_leaves question command) is
asked_leaves question command file answer (AnswersQuestion.as_bibtex on is) = asked_bibtex_leaves question command file answer is

-- ---- other commands that store nothing

cat_leaves : (file : Text) (answer : Answer) → IsCatAnswer file answer → LeavesNothing answer
cat_leaves file answer (IsCatAnswer.copied within reads) = plain _ _ _
cat_leaves file answer (IsCatAnswer.refused kind place told fault) = plain _ _ _

lint_leaves : (ignored : List Text) (cited : List AuxKeys) (name file : Text) (answer : Answer) → IsLintAnswer ignored cited name file answer → LeavesNothing answer
lint_leaves ignored cited name file answer (IsLintAnswer.opened db opens is) = said answer _ _ _ is
lint_leaves ignored cited name file answer (IsLintAnswer.faulty within unread faults are is) = said answer _ _ _ is
lint_leaves ignored cited name file answer (IsLintAnswer.refused kind place told past fault is) = said answer _ _ _ is

record_leaves : (pattern : Option Pattern) (r : Record) → LeavesNothing (record_answer pattern r)
record_leaves None r = lines_leave (Err BadTemplate)
record_leaves (Some t) r = lines_leave (lines_of t (persons r.fields))

names_leave : (depth : ℕ) (key template file : Text) (answer : Answer) → IsNamesAnswer depth key template file answer → LeavesNothing answer
names_leave depth key template file answer is =
    file_leaves (names_answer depth key is.pattern) file answer
    (λ db. found _ (option_and_then (expanded depth (entries_of db)) (entry_named (entries_of db) key)) _ (record_leaves is.pattern) (plain _ _ _)) is.answers

first_names_leave : (template : Text) (list : List ListedRecord) → LeavesNothing (bibtex_names.first_names template list)
first_names_leave template [] = plain _ _ _
first_names_leave template (r ∷ rs) = search (lines_leave)

printed_names_leave : (command : Command) (file : Text) (answer : Answer) → AnswersNames command file answer → LeavesNothing answer
printed_names_leave command file answer (AnswersNames.names_as_ever off is) = names_leave command.depth (key_word command) (template_word command) file answer is
printed_names_leave command file answer (AnswersNames.names_as_bibtex on is) =
    bibtex_leaves (bibtex_names.names_answer (key_word command) (template_word command)) file answer
    (λ db. either (is_star (key_word command)) _ _ (plain _ _ _)
    (listed_leaves (bibtex_names.first_names (template_word command)) (entries_of db) (key_word command ∷ []) 1 (first_names_leave (template_word command)))) is

explain_leaves : (word : Text) (answer : Answer) → IsExplainAnswer word answer → LeavesNothing answer
explain_leaves word answer (IsExplainAnswer.explained head text asked is) = said answer _ _ _ is
explain_leaves word answer (IsExplainAnswer.unknown asked is) = said answer _ _ _ is

diff_leaves : (name other old new : Text) (answer : Answer) → IsDiffAnswer name other old new answer → LeavesNothing answer
diff_leaves name other old new answer (IsDiffAnswer.agree opens opens' agree is) = said answer _ _ _ is
diff_leaves name other old new answer (IsDiffAnswer.differ request requests script says leads differ is) = said answer _ _ _ is
diff_leaves name other old new answer (IsDiffAnswer.refused fault told why is) = said answer _ _ _ is

log_leaves : (file : Text) (journal : Option Text) (answer : Answer) → IsLogAnswer file journal answer → LeavesNothing answer
log_leaves file journal answer (IsLogAnswer.listed opened opens is) = said answer _ _ _ is
log_leaves file journal answer (IsLogAnswer.unopened is) = said answer _ _ _ is.answered

-- ---- answers of sessions

-- nothing is stored; or a journal is, and with it the file
pub data LeavesBoth (answer : Answer) : Type 0 where
  nothing : LeavesNothing answer → LeavesBoth answer
  both : (text : Text) → answer.outcome.journal ≡ Some text → LeavesBoth answer

both_as : (a b : Answer) → a ≡ b → LeavesBoth b → LeavesBoth a
both_as a b is leaves = subst LeavesBoth (sym is) leaves

neither : (answer : Answer) (output message : Text) (status : ℕ) → answer ≡ answer_of output message status → LeavesBoth answer
neither answer output message status is = LeavesBoth.nothing (said answer output message status is)

outcome_leaves : (output : Text) (done : ℕ) (message : Option Text) (saved : Saved) → LeavesBoth (record { output = output; outcome = outcome_after done message saved })
outcome_leaves output done None saved = LeavesBoth.both saved.journal refl
outcome_leaves output done (Some message) saved = by_count (done == 0)
  where
    by_count : (b : Bool) → LeavesBoth (record { output = output; outcome = record { file = if b then None else Some saved.file; journal = if b then None else Some saved.journal; message = message; status = 1 } })
    by_count true = LeavesBoth.nothing (record { file = refl; journal = refl })
    by_count false = LeavesBoth.both saved.journal refl

edited_leaves : (requests : List Request) (message : ℕ → Option SessionFault → Option Text) (opened : SessionState) (answer : Answer) → HasEdited requests message opened answer → LeavesBoth answer
edited_leaves requests message opened answer has =
    both_as answer (edited_answer requests has.done (message has.done has.fault) has.saved) has.answered
    (outcome_leaves _ (edits_in (take has.done requests)) (message has.done has.fault) has.saved)

words_leave : (words : List Text) (opened : SessionState) (answer : Answer) → HasEditedByWords words opened answer → LeavesBoth answer
words_leave words opened answer (HasEditedByWords.said requests asks has) = edited_leaves requests _ opened answer has
words_leave words opened answer (HasEditedByWords.bad none is) = neither answer _ _ _ is

added_leaves : (a : Additions) (told : Text) (opened : SessionState) (answer : Answer) → HasAdded a told opened answer → LeavesBoth answer
added_leaves a told opened answer (HasAdded.added closed saved makes saves is) = both_as answer (added_answer told saved) is (outcome_leaves told 1 None saved)
added_leaves a told opened answer (HasAdded.refused fault known refuses is) = neither answer _ _ _ is

import_leaves : (command : Command) (text : Text) (opened : SessionState) (answer : Answer) → HasImported command text opened answer → LeavesBoth answer
import_leaves command text opened answer (HasImported.read a adds lines skips has) = added_leaves a (import_told command.skipped a text lines) opened answer has
import_leaves command text opened answer (HasImported.unread fault told refuses is) = neither answer _ _ _ is

put_leaves : (at : Position) (text : Text) (opened : SessionState) (answer : Answer) (fault : Option SessionFault) → HasPutIn at text opened answer fault → LeavesBoth answer
put_leaves at text opened answer fault (HasPutIn.inserted closed saved added makes saves gain is) = both_as answer (inserted_answer added saved) is (outcome_leaves _ 1 None saved)
put_leaves at text opened answer fault (HasPutIn.refused own told refuses is) = neither answer _ _ _ is

put_news_leaves : (at : Position) (text : Text) (opened : SessionState) (answer : Answer) → HasPutNews at text opened answer → LeavesBoth answer
put_news_leaves at text opened answer (HasPutNews.whole fault other has) = put_leaves at text opened answer fault has
put_news_leaves at text opened answer (HasPutNews.news told news fault had are has) = put_leaves at news opened answer fault has

insert_leaves : (words : List Text) (text : Text) (opened : SessionState) (answer : Answer) → HasInserted words text opened answer → LeavesBoth answer
insert_leaves words text opened answer (HasInserted.asked at asks has) = put_news_leaves at text opened answer has
insert_leaves words text opened answer (HasInserted.no_position none is) = neither answer _ _ _ is

input_leaves : (answers : Text → SessionState → Answer → Type 0) (input : Text) (opened : SessionState) (answer : Answer) → (answers input opened answer → LeavesBoth answer)
    → AnswersInput answers input opened answer → LeavesBoth answer
input_leaves answers input opened answer each (AnswersInput.within short has) = each has
input_leaves answers input opened answer each (AnswersInput.too_long far is) = neither answer _ _ _ is

-- ---- sessions

-- the disk with this file and this journal
abbrev disk : Text → Option Text → OnDisk
disk text other = record { file = text; journal = other }

-- a command goes on so from any journal with which the file opens
abbrev GoesOn : Call → Text → (SessionState → Answer → Type 0) → Answer → Type 0
GoesOn call file answers answer = (journal : Option Text) (kept : KeptSteps) (to : OnDisk) → Opens file journal kept → AnswersSession call.command.new_journal answers file journal answer
    → to ≡ stored (disk file journal) answer.outcome → IsSession call.command call.input kept to

-- where a journal is stored, it does not matter which was there
with_journal : (old : OnDisk) (answer : Answer) (text : Text) → answer.outcome.journal ≡ Some text → stored old answer.outcome ≡ stored (disk old.file None) answer.outcome
with_journal old answer text is = ap (stored_as old answer.outcome.file) is ∙ sym (ap (stored_as (disk old.file None) answer.outcome.file) is)

begun_run : (call : Call) (old new : OnDisk) (answer : Answer) (answers : SessionState → Answer → Type 0) (text : Text) (opened : SessionState) → LeavesBoth answer
    → GoesOn call old.file answers answer → call.command.new_journal ≡ true → old.journal ≡ Some text → IsUnfit old.file text → IsOpened old.file None opened → answers opened answer
    → new ≡ stored old answer.outcome → KeepsHistory call old new
begun_run call old new answer answers text opened (LeavesBoth.nothing none) runs on is unfit bare has stores = still call old new answer none stores
begun_run call old new answer answers text opened (LeavesBoth.both saved leaves) runs on is unfit bare has stores =
    KeepsHistory.begins text on is unfit bare.opens.0
    (runs None (started old.file) new (bare.opens.0, refl) (AnswersSession.answered opened (OpensWith.fitting bare) has) (stores ∙ with_journal old answer saved leaves))

session_run : (call : Call) (old new : OnDisk) (answer : Answer) (answers : SessionState → Answer → Type 0) → ((opened : SessionState) → answers opened answer → LeavesBoth answer)
    → GoesOn call old.file answers answer → AnswersSession call.command.new_journal answers old.file old.journal answer → new ≡ stored old answer.outcome → KeepsHistory call old new
session_run call old new answer answers leaves runs (AnswersSession.answered opened (OpensWith.fitting is) has) stores =
    KeepsHistory.goes_on opened.steps is.opens (runs old.journal opened.steps new is.opens (AnswersSession.answered opened (OpensWith.fitting is) has) stores)
session_run call old new answer answers leaves runs (AnswersSession.answered opened (OpensWith.begun text on is unfit bare) has) stores =
    begun_run call old new answer answers text opened (leaves opened has) runs on is unfit bare has stores
session_run call old new answer answers leaves runs (AnswersSession.unopened is) stores = still call old new answer (said answer _ _ _ is.answered) stores

edits_keep : (call : Call) (old new : OnDisk) (answer : Answer) → verb_of call.command.name ≡ Some Edit → IsEditsAnswer call.command old.file old.journal call.input answer
    → new ≡ stored old answer.outcome → KeepsHistory call old new
edits_keep call old new answer named (IsEditsAnswer.script lone is) stores =
    session_run call old new answer (AnswersInput HasEditedBy call.input)
    (λ opened. input_leaves HasEditedBy call.input opened answer (edited_leaves (said_of call.input).requests (stop_line (said_of call.input)) opened answer))
    (λ journal kept to opens given leaves. edit_run call.command call.input kept (disk old.file journal) to answer opens named lone given leaves) is stores
edits_keep call old new answer named (IsEditsAnswer.words more is) stores =
    session_run call old new answer (HasEditedByWords (key_words call.command)) (λ opened. words_leave (key_words call.command) opened answer)
    (λ journal kept to opens given leaves. words_run call.command call.input kept (disk old.file journal) to answer opens named more given leaves) is stores

-- with `--all-or-nothing` nothing is stored if anything is refused
edit_keeps : (call : Call) (old new : OnDisk) (answer : Answer) → verb_of call.command.name ≡ Some Edit → IsWholeAnswer call.command old.file old.journal call.input answer
    → new ≡ stored old answer.outcome → KeepsHistory call old new
edit_keeps call old new answer named is stores =
    let made = is.made in
    let refused = call.command.all_or_nothing && not (made.outcome.status == 0) in
    ⊎_elim
    (λ (t : refused ≡ true). still call old new answer (said answer _ _ _ (is.whole ∙ cond-true refused (taken_back made) made t)) stores)
    (λ (f : refused ≡ false).
    let same : answer ≡ made = is.whole ∙ cond-false refused (taken_back made) made f in
    edits_keep call old new made named is.edits (stores ∙ ap (λ (a : Answer). stored old a.outcome) same))
    (cases_Bool refused)

import_keeps : (call : Call) (old new : OnDisk) (answer : Answer) → verb_of call.command.name ≡ Some Import
    → AnswersSession call.command.new_journal (AnswersInput (HasImported call.command) call.input) old.file old.journal answer → new ≡ stored old answer.outcome → KeepsHistory call old new
import_keeps call old new answer named is stores =
    session_run call old new answer (AnswersInput (HasImported call.command) call.input)
    (λ opened. input_leaves (HasImported call.command) call.input opened answer (import_leaves call.command call.input opened answer))
    (λ journal kept to opens given leaves. import_run call.command call.input kept (disk old.file journal) to answer opens named given leaves) is stores

insert_keeps : (call : Call) (old new : OnDisk) (answer : Answer) → verb_of call.command.name ≡ Some Insert
    → AnswersSession call.command.new_journal (AnswersInput (HasInserted (key_words call.command)) call.input) old.file old.journal answer → new ≡ stored old answer.outcome
    → KeepsHistory call old new
insert_keeps call old new answer named is stores =
    session_run call old new answer (AnswersInput (HasInserted (key_words call.command)) call.input)
    (λ opened. input_leaves (HasInserted (key_words call.command)) call.input opened answer (insert_leaves (key_words call.command) call.input opened answer))
    (λ journal kept to opens given leaves. insert_run call.command call.input kept (disk old.file journal) to answer opens named given leaves) is stores

turn_keeps : (verb : Verb) (call : Call) (old new : OnDisk) (answer : Answer) (word : Text) (turn : Request) → verb_of call.command.name ≡ Some verb
    → ((present : Text) → Requests verb call.command present call.input (replicate call.command.n turn)) → IsTurnAnswer word turn call.command.n old.file old.journal answer
    → new ≡ stored old answer.outcome → KeepsHistory call old new
turn_keeps verb call old new answer word turn named requests (IsTurnAnswer.turned turned turns is) stores =
    let asks = asked verb call.command turns.opened.present call.input (replicate call.command.n turn) named (requests turns.opened.present) in
    KeepsHistory.goes_on turns.opened turns.opens
    (turn_run call.command call.input turns.opened old new answer word turn turns.opens asks (IsTurnAnswer.turned turned turns is) stores)
turn_keeps verb call old new answer word turn named requests (IsTurnAnswer.unopened is) stores = still call old new answer (said answer _ _ _ is.answered) stores

forget_keeps : (call : Call) (old new : OnDisk) (answer : Answer) → verb_of call.command.name ≡ Some Forget → IsForgetAnswer old.file answer → new ≡ stored old answer.outcome
    → KeepsHistory call old new
forget_keeps call old new answer named (IsForgetAnswer.forgot saved opens saves is) stores =
    let at : new ≡ disk old.file (Some saved.journal) = stores ∙ ap (λ (a : Answer). stored old a.outcome) is in
    let sound : IsSound (started old.file) = opened_is_sound old.file None (started old.file) (opens, refl) in
    KeepsHistory.forgets named (ap (λ (d : OnDisk). d.file) at)
    (left_opens (started old.file) saved new sound saves (at ∙ ap (λ (text : Text). disk text (Some saved.journal)) (sym saves.file)))
forget_keeps call old new answer named (IsForgetAnswer.unforgotten is) stores = still call old new answer (said answer _ _ _ is.answered) stores

-- ---- each command

verb_keeps : (verb : Option Verb) (call : Call) (old new : OnDisk) (answer : Answer) → verb_of call.command.name ≡ verb
    → IsSomeAnd verb (λ v. Answers v call.command old.file old.journal call.input answer) → new ≡ stored old answer.outcome → KeepsHistory call old new
verb_keeps None call old new answer named is stores = absurd is
verb_keeps (Some (Asks question)) call old new answer named is stores = still call old new answer (asked_leaves question call.command old.file answer is) stores
verb_keeps (Some Cat) call old new answer named is stores = still call old new answer (cat_leaves old.file answer is) stores
verb_keeps (Some Lint) call old new answer named is stores =
    still call old new answer (lint_leaves (key_words call.command) call.command.cited (first_word call.command) old.file answer is) stores
verb_keeps (Some Names) call old new answer named is stores = still call old new answer (printed_names_leave call.command old.file answer is) stores
verb_keeps (Some Explain) call old new answer named is stores = still call old new answer (explain_leaves (first_word call.command) answer is) stores
verb_keeps (Some Diff) call old new answer named is stores =
    still call old new answer (diff_leaves (first_word call.command) (key_word call.command) old.file call.input answer is) stores
verb_keeps (Some Merge) call old new answer named is stores = still call old new answer (said answer _ _ _ is) stores
verb_keeps (Some Log) call old new answer named is stores = still call old new answer (log_leaves old.file old.journal answer is) stores
verb_keeps (Some Edit) call old new answer named is stores = edit_keeps call old new answer named is stores
verb_keeps (Some Import) call old new answer named is stores = import_keeps call old new answer named is stores
verb_keeps (Some Insert) call old new answer named is stores = insert_keeps call old new answer named is stores
verb_keeps (Some Undo) call old new answer named is stores =
    turn_keeps Undo call old new answer (codes "undone") request.Undo named (λ present. refl) is stores
verb_keeps (Some Redo) call old new answer named is stores =
    turn_keeps Redo call old new answer (codes "redone") request.Redo named (λ present. refl) is stores
verb_keeps (Some Forget) call old new answer named is stores = forget_keeps call old new answer named is stores

-- ---- the journal that is read

-- with `--no-journal` none is
none_read : (verb : Option Verb) (no_journal : Bool) → no_journal ≡ true → IsSomeAnd verb (λ v. (reads_journal v && not no_journal) ≡ true) → ⊥
none_read None no_journal on reads = reads
none_read (Some v) no_journal on reads = false≢true (sym (ap not on) ∙ (and_parts (reads_journal v) (not no_journal) reads).1)

no_read : (command : Command) (journal read : Option Text) → command.no_journal ≡ true → ReadsOfJournal command journal read → read ≡ None
no_read command journal read on (ReadsOfJournal.all reads is) = absurd (none_read (verb_of command.name) command.no_journal on reads)
no_read command journal read on (ReadsOfJournal.nothing unread is) = is

-- without it, only the commands do not read it whose answer does not depend on it
not_reading : (verb : Verb) (no_journal : Bool) → no_journal ≡ false → ((reads_journal verb && not no_journal) ≡ true → ⊥) → reads_journal verb ≡ false
not_reading verb no_journal off unread =
    ⊎_elim
    (λ (h : reads_journal verb ≡ true). absurd (unread (ap (λ b. b && not no_journal) h ∙ ap not off)))
    (λ (h : reads_journal verb ≡ false). h)
    (cases_Bool (reads_journal verb))

any_journal : (verb : Verb) (command : Command) (file : Text) (journal other : Option Text) (input : Text) (answer : Answer) → reads_journal verb ≡ false
    → Answers verb command file journal input answer → Answers verb command file other input answer
any_journal (Asks question) command file journal other input answer unread is = is
any_journal Cat command file journal other input answer unread is = is
any_journal Lint command file journal other input answer unread is = is
any_journal Names command file journal other input answer unread is = is
any_journal Explain command file journal other input answer unread is = is
any_journal Diff command file journal other input answer unread is = is
any_journal Merge command file journal other input answer unread is = is
any_journal Forget command file journal other input answer unread is = is
any_journal Edit command file journal other input answer unread is = absurd (false≢true (sym unread))
any_journal Import command file journal other input answer unread is = absurd (false≢true (sym unread))
any_journal Insert command file journal other input answer unread is = absurd (false≢true (sym unread))
any_journal Undo command file journal other input answer unread is = absurd (false≢true (sym unread))
any_journal Redo command file journal other input answer unread is = absurd (false≢true (sym unread))
any_journal Log command file journal other input answer unread is = absurd (false≢true (sym unread))

unread_answer : (verb : Option Verb) (command : Command) (file : Text) (journal other : Option Text) (input : Text) (answer : Answer) → command.no_journal ≡ false
    → (IsSomeAnd verb (λ v. (reads_journal v && not command.no_journal) ≡ true) → ⊥) → IsSomeAnd verb (λ v. Answers v command file journal input answer)
    → IsSomeAnd verb (λ v. Answers v command file other input answer)
unread_answer None command file journal other input answer off unread is = is
unread_answer (Some v) command file journal other input answer off unread is =
    any_journal v command file journal other input answer (not_reading v command.no_journal off unread) is

-- the answer to what is read is the answer to what is there
answer_there : (command : Command) (file : Text) (journal read : Option Text) (input : Text) (answer : Answer) → command.no_journal ≡ false → ReadsOfJournal command journal read
    → IsStoredAnswer command file read input answer → IsStoredAnswer command file journal input answer
answer_there command file journal read input answer off (ReadsOfJournal.all reads same) is = subst (λ (j : Option Text). IsStoredAnswer command file j input answer) same is
answer_there command file journal read input answer off (ReadsOfJournal.nothing unread none) is =
    unread_answer (verb_of command.name) command file read journal input answer off unread is

-- ---- `--no-journal`

-- the disk with this file
abbrev with_file : OnDisk → Text → OnDisk
with_file old text = record old { file = text }

-- what is left of a run over the file alone, if the journal stays
alone : (call : Call) (old over new : OnDisk) → call.command.no_journal ≡ true → new ≡ with_file old over.file → KeepsHistory call (disk old.file None) over → KeepsHistory call old new
alone call old over new on at (KeepsHistory.still is) = KeepsHistory.still (at ∙ ap (λ (d : OnDisk). with_file old d.file) is)
alone call old over new on at (KeepsHistory.goes_on kept opens session) =
    KeepsHistory.file_alone over on opens.0 (subst (λ (k : KeptSteps). IsSession call.command call.input k over) opens.1 session) at
alone call old over new on at (KeepsHistory.begins text asked is unfit opens session) = absurd (none-some text is)
alone call old over new on at (KeepsHistory.file_alone there on' opens session is) =
    KeepsHistory.file_alone there on opens session (at ∙ ap (λ (d : OnDisk). with_file old d.file) is)
alone call old over new on at (KeepsHistory.forgets named file opens) = KeepsHistory.still (at ∙ ap (with_file old) file)

-- ---- any run

printed_leaves : (call : Call) (old : OnDisk) (journal : Option Text) (answer : Answer) → call.command.print ≡ true → IsAnswer call.command old.file journal call.input answer
    → LeavesNothing answer
printed_leaves call old journal answer print is =
    said answer _ _ _ (is.shown ∙ ap (λ (b : Bool). shown b (kept_with call.command.no_journal is.stored)) print)

-- an answer that is stored, without its journal with `--no-journal`
kept_run : (call : Call) (old new : OnDisk) (journal : Option Text) (answer : Answer) → ReadsOfJournal call.command old.journal journal
    → IsStoredAnswer call.command old.file journal call.input answer → new ≡ stored old (kept_with call.command.no_journal answer).outcome → KeepsHistory call old new
kept_run call old new journal answer reads is stores =
    ⊎_elim
    (λ (on : call.command.no_journal ≡ true).
    let bare : OnDisk = disk old.file None in
    let over : OnDisk = stored bare answer.outcome in
    let here = subst (λ (j : Option Text). IsStoredAnswer call.command old.file j call.input answer) (no_read call.command old.journal journal on reads) is in
    alone call old over new on (stores ∙ ap (λ (b : Bool). stored old (kept_with b answer).outcome) on) (verb_keeps (verb_of call.command.name) call bare over answer refl here refl))
    (λ (off : call.command.no_journal ≡ false).
    let there = answer_there call.command old.file old.journal journal call.input answer off reads is in
    verb_keeps (verb_of call.command.name) call old new answer refl there (stores ∙ ap (λ (b : Bool). stored old (kept_with b answer).outcome) off))
    (cases_Bool call.command.no_journal)

pub any-run-keeps-the-history : any_run_keeps_the_history
any-run-keeps-the-history call old new (IsProgramRun.failed is) = KeepsHistory.still is
any-run-keeps-the-history call old new (IsProgramRun.answered journal answer reads is stores) =
    ⊎_elim
    (λ (h : call.command.print ≡ true). still call old new answer (printed_leaves call old journal answer h is) stores)
    (λ (h : call.command.print ≡ false).
    let same : answer ≡ kept_with call.command.no_journal is.stored = is.shown ∙ ap (λ (b : Bool). shown b (kept_with call.command.no_journal is.stored)) h in
    kept_run call old new journal is.stored reads is.answers (stores ∙ ap (λ (a : Answer). stored old a.outcome) same))
    (cases_Bool call.command.print)

pub a-printed-run-leaves-the-disk : a_printed_run_leaves_the_disk
a-printed-run-leaves-the-disk call old new print (IsProgramRun.failed is) = is
a-printed-run-leaves-the-disk call old new print (IsProgramRun.answered journal answer reads is stores) = stores ∙ as_before old answer (printed_leaves call old journal answer print is)
