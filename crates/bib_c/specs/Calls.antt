-- What each call does to the state behind a handle, and what it reports. (dialect)
use Rattle.std.specs.Prelude.{◌≡◌, ℕ, Bool, true, List, Option, Some, None, if◌then◌else◌}
use Rattle.bib_spec.specs.Text.{Text}
use Rattle.bib_spec.specs.Records.{IsDepth}
use Rattle.bib_data.specs.declared.request.Request.{Request}
use Rattle.bib_words.specs.declared.commands.Command.{Command}
use Rattle.bib_words.specs.Command.{IsCommand, has_others}
use Rattle.bib_answers.specs.declared.answers.Answer.{Answer}
use Rattle.bib_run.specs.Answers.{IsAnswer}
use Rattle.shelf_run.specs.Answers.{IsShelfAnswer}
use Rattle.bib_journal.specs.OpenSteps.{SessionState}
use Rattle.bib_journal.specs.Session.{IsOpened, RefusesOpen, Begins, Ends, RefusesEnd}
use Rattle.bib_state.specs.Calls.{Moves, IsOpen, RefusesCall, BySession, OnlyMemory, MakesWords, RefusesWords, RefusesLabel, Turns, DoesScript, nothing_given, GivesSaved, GivesFile}
use Rattle.bib_state.specs.Faults.{out_of_memory}
use Rattle.bib_state.specs.Telling.{GivesEntry, GivesKeys, RefusesEntry}
use Rattle.bib_state.specs.declared.fault.CallFault.{CallFault}
use Rattle.bib_state.specs.declared.fault.CallFault.TheVariants.{Misuse, NoSuchEntry, NotUtf8, BadScript, Session}
use Rattle.bib_state.specs.declared.performing.Turned.{Turned}
use Rattle.bib_state.specs.declared.performing.Scripted.{Scripted}
use Rattle.bib_state.specs.declared.state.State.{State}
use Rattle.bib_c.specs.Reports.{reported, of_turned, of_scripted}
use Rattle.bib_c.specs.Words.{words_of}
use Rattle.bib_c.specs.declared.report.Report.{Report}

-- ---- the state behind a handle

-- the state behind the handle changes so
pub record Changes (how : State → State → Type 0) (old new : Option State) : Type 0 where
  pub before : State
  pub after : State
  pub was : old ≡ Some before
  pub is : new ≡ Some after
  pub changed : how before after

-- there is a state behind the handle, of which this is so
pub record Holds (what : State → Type 0) (handle : Option State) : Type 0 where
  pub state : State
  pub is : handle ≡ Some state
  pub holds : what state

-- no session, and no texts
abbrev pub fresh : State
fresh = record { session = None; answer = nothing_given }

-- the same session, and no texts
abbrev pub forgotten : State → State
forgotten state = record { session = state.session; answer = nothing_given }

-- ---- calls that are done, or refused

-- a call does so, or is refused for that reason and changes nothing, and the report says which
pub data Reports (does : State → State → Type 0) (refuses : CallFault → State → Type 0) (report : Report) (old new : State) : Type 0 where
  done : report ≡ reported None 0 0 → does old new → Reports does refuses report old new
  refused : (fault : CallFault) → report ≡ reported (Some fault) 0 0 → refuses fault old → new ≡ old → Reports does refuses report old new

-- the session that is open moves so
pub record MovesOn (how : SessionState → SessionState → Type 0) (old new : State) : Type 0 where
  pub moved : Moves how old.session new.session
  pub answer : new.answer ≡ old.answer

-- the session that is open gives texts, and stays as it is
pub record Gives (what : Answer → SessionState → Type 0) (old new : State) : Type 0 where
  pub given : IsOpen (what new.answer) old.session
  pub session : new.session ≡ old.session

-- why a call on the session is refused
abbrev pub Refused : (CallFault → SessionState → Type 0) → CallFault → State → Type 0
Refused why fault old = RefusesCall why fault old.session

-- ---- a session is opened

-- the journal, if there is one
abbrev pub journal_if : Bool → Text → Option Text
journal_if there journal = if there then Some journal else None

-- the session that the file and its journal say is open
pub record IsOpening (file : Text) (journal : Option Text) (old new : State) : Type 0 where
  pub opened : IsOpen (IsOpened file journal) new.session
  pub answer : new.answer ≡ old.answer

-- why no session is opened
abbrev pub RefusesOpening : Text → Option Text → CallFault → State → Type 0
RefusesOpening file journal (Session reason) old = RefusesOpen reason file journal
RefusesOpening file journal Misuse old = ⊥
RefusesOpening file journal NoSuchEntry old = ⊥
RefusesOpening file journal NotUtf8 old = ⊥
RefusesOpening file journal BadScript old = ⊥

-- a session is opened, or is not
abbrev pub Opens : Text → Option Text → Report → State → State → Type 0
Opens file journal report = Reports (IsOpening file journal) (RefusesOpening file journal) report

-- ---- edits

-- the edit that these words say is made
pub record IsEdit (text : Text) (lens : List ℕ) (old new : State) : Type 0 where
  pub words : List Text
  pub said : words_of text lens ≡ Some words
  pub made : MovesOn (MakesWords words) old new

-- why no edit is made: the text is too short for the words; or memory ran out; or what the words say is refused
pub data RefusesEditing (text : Text) (lens : List ℕ) (fault : CallFault) (old : State) : Type 0 where
  short : fault ≡ Misuse → words_of text lens ≡ None → RefusesEditing text lens fault old
  memory : fault ≡ out_of_memory → RefusesEditing text lens fault old
  said : (words : List Text) → words_of text lens ≡ Some words → Refused (RefusesWords words) fault old → RefusesEditing text lens fault old

-- one edit is made, or is not
abbrev pub Edits : Text → List ℕ → Report → State → State → Type 0
Edits text lens report = Reports (IsEdit text lens) (RefusesEditing text lens) report

-- a step is begun, or is not
abbrev pub BeginsStep : Text → Report → State → State → Type 0
BeginsStep label report = Reports (MovesOn (Begins label)) (Refused (RefusesLabel label)) report

-- the step is ended, or is not
abbrev pub EndsStep : Report → State → State → Type 0
EndsStep report = Reports (MovesOn Ends) (Refused (BySession RefusesEnd)) report

-- ---- several requests

-- steps are undone or redone, up to the first refusal
pub record TurnsSteps (request : Request) (times : ℕ) (report : Report) (old new : State) : Type 0 where
  pub turned : Turned
  pub told : report ≡ of_turned turned
  pub turns : Turns request times turned old.session new.session
  pub answer : new.answer ≡ old.answer

-- what the lines of a script say is done, up to the first that is refused
pub record RunsScript (script : Text) (report : Report) (old new : State) : Type 0 where
  pub scripted : Scripted
  pub told : report ≡ of_scripted scripted
  pub does : DoesScript script scripted old.session new.session
  pub answer : new.answer ≡ old.answer

-- ---- what is given

-- the file, and the journal that leads back from it
abbrev pub SavesBoth : Report → State → State → Type 0
SavesBoth report = Reports (Gives GivesSaved) (Refused (BySession OnlyMemory)) report

-- the file
abbrev pub SavesFile : Report → State → State → Type 0
SavesFile report = Reports (Gives GivesFile) (Refused (BySession OnlyMemory)) report

-- the keys of all entries
abbrev pub TellsKeys : Report → State → State → Type 0
TellsKeys report = Reports (Gives GivesKeys) (Refused (BySession OnlyMemory)) report

-- why no entry is told: the depth is out of its range; or the session does not tell it
pub data RefusesTelling (key : Text) (depth : ℕ) (fault : CallFault) (old : State) : Type 0 where
  deep : fault ≡ Misuse → ¬ IsDepth depth → RefusesTelling key depth fault old
  untold : IsDepth depth → Refused (RefusesEntry key depth) fault old → RefusesTelling key depth fault old

-- the first entry with this key
abbrev pub TellsEntry : Text → ℕ → Report → State → State → Type 0
TellsEntry key depth report = Reports (Gives (GivesEntry key depth)) (RefusesTelling key depth) report

-- ---- commands

-- The command is run over these bytes; or the program has no such command, which is status 2; or memory ran out, which is status
-- 4. The session stays as it is.
pub data Runs (asked : Option Command) (file : Text) (journal : Option Text) (input : Text) (status : ℕ) (old new : State) : Type 0 where
  answered : (command : Command) → asked ≡ Some command → IsAnswer command file journal input new.answer
      → status ≡ new.answer.outcome.status → new.session ≡ old.session → Runs asked file journal input status old new
  unknown : (command : Command) → asked ≡ Some command → ¬ IsCommand command → status ≡ 2 → new ≡ forgotten old → Runs asked file journal input status old new
  short : asked ≡ None → status ≡ 2 → new ≡ forgotten old → Runs asked file journal input status old new
  memory : status ≡ 4 → new ≡ forgotten old → Runs asked file journal input status old new

-- a command of the program that names files which are read with its own
abbrev pub IsOverFiles : Command → Type 0
IsOverFiles command = IsCommand command × (has_others command ≡ true)

-- The command is run over files with these names and bytes, which are read as one; or the program has no such command over files,
-- or the names or the bytes are too short for their lengths, which is status 2; or memory ran out, which is status 4. The session
-- stays as it is.
pub data RunsFiles (asked : Option Command) (names files : Option (List Text)) (status : ℕ) (old new : State) : Type 0 where
  answered : (command : Command) (named texts : List Text) → asked ≡ Some command → names ≡ Some named → files ≡ Some texts
      → IsShelfAnswer command named texts new.answer → status ≡ new.answer.outcome.status → new.session ≡ old.session → RunsFiles asked names files status old new
  unknown : (command : Command) → asked ≡ Some command → ¬ IsOverFiles command → status ≡ 2 → new ≡ forgotten old → RunsFiles asked names files status old new
  short : asked ≡ None → status ≡ 2 → new ≡ forgotten old → RunsFiles asked names files status old new
  short_names : names ≡ None → status ≡ 2 → new ≡ forgotten old → RunsFiles asked names files status old new
  short_files : files ≡ None → status ≡ 2 → new ≡ forgotten old → RunsFiles asked names files status old new
  memory : status ≡ 4 → new ≡ forgotten old → RunsFiles asked names files status old new
