-- What calls do to the session that may be open, and what they give. (dialect)
use Rattle.std.specs.Prelude.{◌≡◌, ◌⊎◌, ℕ, List, [], length, replicate, slice_index_or, Option, Some, None, option_map}
use Rattle.std.specs.Option.{option_map_or}
use Rattle.bib_spec.specs.Text.{Text}
use Rattle.history_spec.specs.Steps.{IsLabel}
use Rattle.bib_data.specs.declared.request.Request.{Request}
use Rattle.bib_journal.specs.OpenSteps.{SessionState}
use Rattle.bib_journal.specs.Loading.{Saves}
use Rattle.bib_journal.specs.Session.{RefusesBegin, Performs}
use Rattle.bib_journal.specs.declared.fault.SessionFault.{SessionFault}
use Rattle.bib_journal.specs.declared.fault.SessionFault.TheVariants.{Memory}
use Rattle.bib_journal.specs.declared.saving.Saved.{Saved}
use Rattle.bib_script.specs.Script.{Said, said_of}
use Rattle.bib_script.specs.Words.{asked_by_words}
use Rattle.bib_answers.specs.declared.answers.Answer.{Answer}
use Rattle.bib_answers.specs.Outcome.{answer_of}
use Rattle.bib_state.specs.Steps.{MakesAsked, RefusesAsked}
use Rattle.bib_state.specs.Faults.{out_of_memory}
use Rattle.bib_state.specs.declared.fault.CallFault.{CallFault}
use Rattle.bib_state.specs.declared.fault.CallFault.TheVariants.{Misuse, NoSuchEntry, NotUtf8, BadScript, Session}
use Rattle.bib_state.specs.declared.performing.Turned.{Turned}
use Rattle.bib_state.specs.declared.performing.Scripted.{Scripted}

-- ---- the session that is open

-- the session that is open moves so
pub record Moves (how : SessionState → SessionState → Type 0) (old new : Option SessionState) : Type 0 where
  pub before : SessionState
  pub after : SessionState
  pub was : old ≡ Some before
  pub is : new ≡ Some after
  pub moved : how before after

-- a session is open, of which this is so
pub record IsOpen (what : SessionState → Type 0) (session : Option SessionState) : Type 0 where
  pub state : SessionState
  pub is : session ≡ Some state
  pub holds : what state

-- why a call on the session is refused: none is open; or what the call says of the session that is
abbrev pub RefusesCall : (CallFault → SessionState → Type 0) → CallFault → Option SessionState → Type 0
RefusesCall why fault None = fault ≡ Misuse
RefusesCall why fault (Some state) = why fault state

-- the session itself refuses the call
abbrev pub BySession : (SessionFault → SessionState → Type 0) → CallFault → SessionState → Type 0
BySession why (Session reason) state = why reason state
BySession why Misuse state = ⊥
BySession why NoSuchEntry state = ⊥
BySession why NotUtf8 state = ⊥
BySession why BadScript state = ⊥

-- memory ran out
abbrev pub OnlyMemory : SessionFault → SessionState → Type 0
OnlyMemory reason state = reason ≡ Memory

-- how many steps can be undone, or redone
abbrev pub undo_count : Option SessionState → ℕ
undo_count session = option_map_or (λ state. length state.steps.past) session 0

abbrev pub redo_count : Option SessionState → ℕ
redo_count session = option_map_or (λ state. length state.steps.future) session 0

-- ---- one edit, and steps of several

-- the edit that the words say is made, as a step
pub record MakesWords (words : List Text) (old new : SessionState) : Type 0 where
  pub requests : List Request
  pub asked : asked_by_words words ≡ Some requests
  pub made : MakesAsked requests old new

-- the edit that the words say is refused
pub record RefusesSaid (words : List Text) (reason : SessionFault) (old : SessionState) : Type 0 where
  pub requests : List Request
  pub asked : asked_by_words words ≡ Some requests
  pub refused : RefusesAsked requests reason old

-- why the words make no edit: they say none; or it is refused; or memory ran out before
abbrev pub RefusesWords : List Text → CallFault → SessionState → Type 0
RefusesWords words BadScript old = asked_by_words words ≡ None
RefusesWords words (Session reason) old = (reason ≡ Memory) ⊎ RefusesSaid words reason old
RefusesWords words Misuse old = ⊥
RefusesWords words NoSuchEntry old = ⊥
RefusesWords words NotUtf8 old = ⊥

-- why no step is begun with this label: it is no label, or the session refuses it
abbrev pub RefusesLabel : Text → CallFault → SessionState → Type 0
RefusesLabel label Misuse old = ¬ IsLabel label
RefusesLabel label (Session reason) old = RefusesBegin reason old
RefusesLabel label NoSuchEntry old = ⊥
RefusesLabel label NotUtf8 old = ⊥
RefusesLabel label BadScript old = ⊥

-- ---- several requests

-- this many of the requests were done, and the next one was refused, if one was
pub record HasTurned (request : Request) (times : ℕ) (turned : Turned) (old new : SessionState) : Type 0 where
  pub reason : Option SessionFault
  pub told : turned.fault ≡ option_map Session reason
  pub performs : Performs (replicate times request) turned.done reason old new

-- the same of the session that is open; where none is, no request was done
pub data Turns (request : Request) (times : ℕ) (turned : Turned) (old new : Option SessionState) : Type 0 where
  closed : turned.done ≡ 0 → turned.fault ≡ Some Misuse → old ≡ None → new ≡ None → Turns request times turned old new
  opened : Moves (HasTurned request times turned) old new → Turns request times turned old new

-- why a script stopped, if it did: a request was refused, or a line says none
abbrev pub stopped : Said → Option SessionFault → Option CallFault
stopped said (Some fault) = Some (Session fault)
stopped said None = option_map (λ line. BadScript) said.bad_line

-- the line at which a script stopped after its first `done` requests, counted from 1; or 0
abbrev pub stopped_line : Said → ℕ → Option SessionFault → ℕ
stopped_line said done (Some fault) = slice_index_or said.lines done 0
stopped_line said done None = option_map_or (λ line. line) said.bad_line 0

-- the requests of the script were done, up to the first that is refused, or to the line that says none; or memory ran out before
pub data HasScripted (script : Text) (scripted : Scripted) (old new : SessionState) : Type 0 where
  memory : scripted.done ≡ 0 → scripted.line ≡ 0 → scripted.fault ≡ Some out_of_memory → new ≡ old → HasScripted script scripted old new
  performed : (reason : Option SessionFault) → scripted.fault ≡ stopped (said_of script) reason
      → scripted.line ≡ stopped_line (said_of script) scripted.done reason
      → Performs (said_of script).requests scripted.done reason old new → HasScripted script scripted old new

-- the same of the session that is open; where none is, no request was done
pub data DoesScript (script : Text) (scripted : Scripted) (old new : Option SessionState) : Type 0 where
  closed : scripted.done ≡ 0 → scripted.line ≡ 0 → scripted.fault ≡ Some Misuse → old ≡ None → new ≡ None → DoesScript script scripted old new
  opened : Moves (HasScripted script scripted) old new → DoesScript script scripted old new

-- ---- what a call gives

-- no text
abbrev pub nothing_given : Answer
nothing_given = answer_of [] [] 0

-- a file that is to be stored, and its journal, if it is asked for
abbrev pub stored : Text → Option Text → Answer
stored file journal = record { output = []; outcome = record { file = Some file; journal = journal; message = []; status = 0 } }

-- the file of the session, and the journal that leads back from it
pub record GivesSaved (answer : Answer) (state : SessionState) : Type 0 where
  pub saved : Saved
  pub saves : Saves state.steps saved
  pub given : answer ≡ stored saved.file (Some saved.journal)

-- the file of the session
abbrev pub GivesFile : Answer → SessionState → Type 0
GivesFile answer state = answer ≡ stored state.steps.present None
