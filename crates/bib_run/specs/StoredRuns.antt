-- Runs of the program, one after another, over one file: what an answer leaves is stored, and the next run reads it. (dialect)
use Rattle.std.specs.Prelude.{ℕ, ◌≡◌, ◌≢◌, ◌<◌, ◌≤◌, ◌&&◌, ◌==◌, if◌then◌else◌, Bool, true, false, List, [], ◌∷◌, length, take, replicate, bytes_eq, codes, Option, Some, None, IsSomeAnd, unwrap_or}
use Rattle.std.specs.List.{list_all}
use Rattle.bib_spec.specs.Bytes.{file_limit}
use Rattle.bib_spec.specs.Text.{Text}
use Rattle.history_spec.specs.Steps.{KeptSteps, first_of}
use Rattle.bib_data.specs.declared.edit.Edit.TheVariants.{AddMany}
use Rattle.bib_data.specs.declared.request.Request.{Request}
use Rattle.bib_data.specs.declared.request.Request.TheVariants as request
use Rattle.bib_journal.specs.declared.fault.SessionFault.{SessionFault}
use Rattle.bib_journal.specs.declared.fault.SessionFault.TheVariants.{Memory}
use Rattle.bib_journal.specs.Loading.{last_of}
use Rattle.bib_journal.specs.OpenSteps.{SessionState, idle}
use Rattle.bib_journal.specs.Session.{Opens, Performs}
use Rattle.bib_journal.specs.Runs.{OnDisk, ended, requests_of, IsOneSession}
use Rattle.bib_journal.specs.Renaming.{OfReadings, KeepsTexts, is_renaming}
use Rattle.bib_ris.specs.declared.fault.ImportFault.{ImportFault}
use Rattle.bib_ris.specs.declared.fault.ImportFault.TheVariants as import_fault
use Rattle.bib_ris.specs.declared.importing.Additions.{Additions}
use Rattle.bib_ris.specs.Import.{AreAdditions, RefusesImport}
use Rattle.bib_script.specs.Script.{said_of}
use Rattle.bib_script.specs.Words.{asked_by_words}
use Rattle.bib_words.specs.declared.commands.Command.{Command}
use Rattle.bib_words.specs.declared.verbs.Verb.{Verb}
use Rattle.bib_words.specs.declared.verbs.Verb.TheVariants.{Edit, Undo, Redo, Log, Import, Insert}
use Rattle.bib_words.specs.Verbs.{verb_of}
use Rattle.bib_words.specs.Command.{ReadsJournal}
use Rattle.bib_answers.specs.declared.answers.Outcome.{Outcome}
use Rattle.bib_answers.specs.declared.answers.Answer.{Answer}
use Rattle.bib_data.specs.declared.position.Position.{Position}
use Rattle.bib_run.specs.InsertAnswer.{position_asked, AreNews}
use Rattle.bib_run.specs.Answers.{IsAnswer, key_words}

-- ---- what is stored

-- the new text, or the old one if there is no new text
abbrev pub or_old : Option Text → Option Text → Option Text
or_old None old = old
or_old (Some new) old = Some new

-- what is on the disk after the outcome of a run is stored
abbrev pub stored : OnDisk → Outcome → OnDisk
stored disk outcome = record { file = unwrap_or outcome.file disk.file; journal = or_old outcome.journal disk.journal }

-- A run of the command without `--print` and `--no-journal`: it answers to what is on the disk and to this input, and what its
-- answer leaves is stored.
pub record IsStoredRun (command : Command) (input : Text) (old new : OnDisk) : Type 0 where
  pub kept : command.print ≡ false
  pub journaled : command.no_journal ≡ false
  pub answer : Answer
  pub answers : IsAnswer command old.file old.journal input answer
  pub stores : new ≡ stored old answer.outcome

-- ---- requests of a command

-- a run of the command is a session: it opens the file and its journal, and leaves both
abbrev pub OpensSession : Command → Type 0
OpensSession = ReadsJournal

-- The requests of `edit`: the requests of its script; or, if words follow the file, a step of the one edit that they say, and no
-- request if they say no edit.
abbrev pub edits_asked : Command → Text → List Request
edits_asked command input = if length command.words == 1 then (said_of input).requests else unwrap_or (asked_by_words (key_words command)) []

-- the requests of `edit`: the edits of a script or of words, or none if its input is too long; with `--all-or-nothing` also none
-- if one is refused
pub data AsksEdits (command : Command) (input : Text) : List Request → Type 0 where
  edits : AsksEdits command input (edits_asked command input)
  too_long : file_limit < length input → AsksEdits command input []
  taken_back : command.all_or_nothing ≡ true → AsksEdits command input []

-- the requests of `import`: one addition of all entries that its input says; or none if its input is too long or no RIS text, or with
-- `--strict` if a line of it is skipped
pub data AsksAdditions (command : Command) (present input : Text) : List Request → Type 0 where
  addition : (a : Additions) → AreAdditions command.latex command.strict present input a → AsksAdditions command present input (request.Edit (AddMany a.entries) ∷ [])
  no_text : (fault : ImportFault) → fault ≢ import_fault.Memory → RefusesImport command.latex command.strict fault input → AsksAdditions command present input []
  too_long : file_limit < length input → AsksAdditions command present input []

-- the requests of `insert`: one insertion of its input, or of what is new of it; or none if its words say no position or its input
-- is too long
pub data AsksInsertion (words : List Text) (present input : Text) : List Request → Type 0 where
  insertion : (at : Position) → position_asked words ≡ Some at → AsksInsertion words present input (request.Insert at input ∷ [])
  insertion_of_news : (at : Position) (news : Text) → position_asked words ≡ Some at → AreNews at present input news → AsksInsertion words present input (request.Insert at news ∷ [])
  no_position : position_asked words ≡ None → AsksInsertion words present input []
  too_long : file_limit < length input → AsksInsertion words present input []

-- The requests of each command to a session with this present file: those of `edit`, `import` and `insert`; `n` undos or redos. `log`
-- requests nothing, and the other commands open no session.
abbrev pub Requests : Verb → Command → Text → Text → List Request → Type 0
Requests Edit command present input = AsksEdits command input
Requests Import command present input = AsksAdditions command present input
Requests Insert command present input = AsksInsertion (key_words command) present input
Requests Undo command present input = λ requests. requests ≡ replicate command.n request.Undo
Requests Redo command present input = λ requests. requests ≡ replicate command.n request.Redo
Requests Log command present input = λ requests. requests ≡ []
Requests _ command present input = λ requests. ⊥

-- the requests of a command of the program
abbrev pub Asks : Command → Text → Text → List Request → Type 0
Asks command present input requests = IsSomeAnd (verb_of command.name) (λ verb. Requests verb command present input requests)

-- A session that keeps the steps `old` gets the requests of the command, and accepts these: all, or those before the first that
-- is refused. It keeps the steps `new` then.
pub record Accepts (command : Command) (input : Text) (accepted : List Request) (old new : KeptSteps) : Type 0 where
  pub requests : List Request
  pub asks : Asks command old.present input requests
  pub done : ℕ
  pub fault : Option SessionFault
  pub told : fault ≢ Some Memory
  pub reached : SessionState
  pub performs : Performs requests done fault (idle old) reached
  pub first : accepted ≡ take done requests
  pub kept : new ≡ reached.steps

-- ---- one run

-- One session goes on from these steps, does the requests of the command that it accepts, and then ends a step that is still open.
-- The file and the journal on the disk open as what that session keeps.
abbrev pub IsSession : Command → Text → KeptSteps → OnDisk → Type 0
IsSession command input kept new = (accepted : List Request) × (one : IsOneSession (ended accepted) kept new) × Accepts command input accepted kept one.closed

-- A run of such a command is one session that goes on from what the file and its journal keep, and leaves both.
abbrev pub a_run_is_a_session : Type 0
a_run_is_a_session = (command : Command) (input : Text) (kept : KeptSteps) (old new : OnDisk) → OpensSession command → Opens old.file old.journal kept
    → IsStoredRun command input old new → IsSession command input kept new

-- ---- runs one after another

-- a command, and what its standard input says
pub record Call : Type 0 where
  pub command : Command
  pub input : Text

-- runs of such commands, each over what the one before left
abbrev pub AreStoredRuns : List Call → OnDisk → OnDisk → Type 0
AreStoredRuns [] old new = new ≡ old
AreStoredRuns (call ∷ calls) old new = (mid : OnDisk) × OpensSession call.command × IsStoredRun call.command call.input old mid × AreStoredRuns calls mid new

-- each run in turn accepts these requests, from the steps `old` to the steps `new`
abbrev pub AreAccepted : List Call → List (List Request) → KeptSteps → KeptSteps → Type 0
AreAccepted [] [] old new = new ≡ old
AreAccepted [] (accepted ∷ others) old new = ⊥
AreAccepted (call ∷ calls) [] old new = ⊥
AreAccepted (call ∷ calls) (accepted ∷ others) old new = (mid : KeptSteps) × Accepts call.command call.input accepted old mid × AreAccepted calls others mid new

-- Any runs of the program over a file and its journal are one session that does the requests that each run accepted, whatever was
-- refused. So the file that they leave is the file of the history.
abbrev pub runs_of_the_program_are_one_session : Type 0
runs_of_the_program_are_one_session = (calls : List Call) (kept : KeptSteps) (old new : OnDisk) → Opens old.file old.journal kept → AreStoredRuns calls old new
    → (accepted : List (List Request)) × (one : IsOneSession (requests_of accepted) kept new) × AreAccepted calls accepted kept one.closed

-- After any runs, one `undo` of at least as many changes as there are to undo leads to the first file of the history.
abbrev pub one_undo_leads_to_the_first_file : Type 0
one_undo_leads_to_the_first_file = (calls : List Call) (undo : Command) (input : Text) (first kept : KeptSteps) (old mid new : OnDisk)
    → Opens old.file old.journal first → AreStoredRuns calls old mid → Opens mid.file mid.journal kept
    → undo.name ≡ codes "undo" → length kept.past ≤ undo.n → IsStoredRun undo input mid new → new.file ≡ first_of first.past first.present

-- From any file and journal, one `redo` of at least as many changes as there are to redo leads to the last file of the history.
abbrev pub one_redo_leads_to_the_last_file : Type 0
one_redo_leads_to_the_last_file = (redo : Command) (input : Text) (kept : KeptSteps) (mid new : OnDisk) → Opens mid.file mid.journal kept
    → redo.name ≡ codes "redo" → length kept.future ≤ redo.n → IsStoredRun redo input mid new → new.file ≡ last_of kept.future kept.present

-- the command is `edit`, and all its requests are renamings
abbrev pub renames : Call → Bool
renames call = bytes_eq call.command.name (codes "edit") && list_all is_renaming (edits_asked call.command call.input)

-- Runs that request only renamings keep every record, except its key, whatever was refused.
abbrev pub runs_of_renamings_keep_every_record : Type 0
runs_of_renamings_keep_every_record = (calls : List Call) (kept : KeptSteps) (old new : OnDisk) → Opens old.file old.journal kept
    → list_all renames calls ≡ true → AreStoredRuns calls old new → OfReadings old.file new.file KeepsTexts

-- With `--all-or-nothing` a run of `edit` that is refused leaves the disk as it was.
abbrev pub a_refused_script_leaves_the_disk : Type 0
a_refused_script_leaves_the_disk = (command : Command) (input : Text) (old new : OnDisk) → command.name ≡ codes "edit" → command.all_or_nothing ≡ true
    → (run : IsStoredRun command input old new) → run.answer.outcome.status ≢ 0 → new ≡ old
