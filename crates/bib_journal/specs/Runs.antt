-- Several runs: each opens the file and the journal that the one before left, does its requests, and leaves both again. (dialect)
use Rattle.std.specs.Prelude.{ℕ, ◌≡◌, ◌≢◌, if◌then◌else◌, Bool, true, false, List, [], ◌∷◌, ◌++◌, length, replicate, Option, Some}
use Rattle.bib_spec.specs.Text.{Text}
use Rattle.bib_spec.specs.Reading.{bytes_of}
use Rattle.history_spec.specs.History.{History, Edits, Undoes, Redoes}
use Rattle.history_spec.specs.Steps.{KeptSteps, history_of, first_of}
use Rattle.edit_spec.specs.Edits.{edited}
use Rattle.insert_spec.specs.Insertion.{inserted}
use Rattle.bib_store.specs.Readings.{OfReading}
use Rattle.bib_data.specs.declared.request.Request.{Request}
use Rattle.bib_data.specs.declared.request.Request.TheVariants as request
use Rattle.bib_keys.specs.MadeBase.{made_base}
use Rattle.bib_edit.specs.Asking.{OfEdit}
use Rattle.bib_edit.specs.Positions.{IsPlaceOf, IsPositionPlace, edit_at}
use Rattle.bib_journal.specs.declared.saving.Saved.{Saved}
use Rattle.bib_journal.specs.Loading.{Saves, last_of}
use Rattle.bib_journal.specs.OpenSteps.{SessionState, idle, after_edit, MovesTo}
use Rattle.bib_journal.specs.Session.{Opens, DoesAll}
use Rattle.bib_journal.specs.declared.open_step.OpenStep.{OpenStep}
use Rattle.bib_journal.specs.declared.open_step.OpenStep.TheVariants.{NoStep, NewStep}

-- what is on the disk: a file, and its journal if it has one
pub record OnDisk : Type 0 where
  pub file : Text
  pub journal : Option Text

-- a file and its journal, as a run left them
abbrev pub left : Saved → OnDisk
left saved = record { file = saved.file; journal = Some saved.journal }

-- whether the last step that the requests begin is still open after them
abbrev pub leaves_open : Bool → List Request → Bool
leaves_open current [] = current
leaves_open current (request.Begin label ∷ requests) = leaves_open true requests
leaves_open current (request.End ∷ requests) = leaves_open false requests
leaves_open current (other ∷ requests) = leaves_open current requests

-- the requests of a run, which ends the step that is open
abbrev pub ended : List Request → List Request
ended requests = if leaves_open false requests then requests ++ request.End ∷ [] else requests

-- a run: a session is opened, the requests are accepted one after another, a step that is open is ended, and what is kept is left
pub record IsRun (requests : List Request) (old new : OnDisk) : Type 0 where
  pub opened : KeptSteps
  pub closed : KeptSteps
  pub saved : Saved
  pub opens : Opens old.file old.journal opened
  pub did : DoesAll (ended requests) (idle opened) (idle closed)
  pub saves : Saves closed saved
  pub leaves : new ≡ left saved

-- runs one after another, each from what the one before left
abbrev pub AreRuns : List (List Request) → OnDisk → OnDisk → Type 0
AreRuns [] old new = new ≡ old
AreRuns (requests ∷ runs) old new = (mid : OnDisk) × IsRun requests old mid × AreRuns runs mid new

-- the requests of all runs, in order, with the ends of steps that are open
abbrev pub requests_of : List (List Request) → List Request
requests_of [] = []
requests_of (requests ∷ runs) = ended requests ++ requests_of runs

-- ---- whole files

-- a history, and whether its last move began a step that is open: then the next edit amends it
pub record Course : Type 0 where
  pub history : History
  pub current : OpenStep

-- the history of the session's steps, and which step is open
abbrev pub course_of : SessionState → Course
course_of state = record { history = history_of state.steps; current = state.current }

-- what an accepted request makes of the history of whole files
abbrev pub Moves : Request → Course → Course → Type 0
Moves (request.Edit edit) old new = OfReading old.history.present (λ db. OfEdit edit (λ e. MovesTo old.current (bytes_of (edited made_base db e)) old.history new.history)) × (new.current ≡ after_edit old.current)
Moves (request.Place position edit) old new = ((place : ℕ) × IsPlaceOf old.history.present position edit place
    × OfReading old.history.present (λ db. OfEdit (edit_at place edit) (λ e. MovesTo old.current (bytes_of (edited made_base db e)) old.history new.history))) × (new.current ≡ after_edit old.current)
Moves (request.Insert position text) old new = (old.current ≡ NoStep) × (new.current ≡ NoStep) × ((place : ℕ) × IsPositionPlace old.history.present position place
    × OfReading old.history.present (λ db. OfReading text (λ added. Edits (bytes_of (inserted place added db)) old.history new.history)))
Moves (request.Begin label) old new = (old.current ≡ NoStep) × (new ≡ record old { current = NewStep label })
Moves request.End old new = (old.current ≢ NoStep) × (new ≡ record old { current = NoStep })
Moves request.Undo old new = (old.current ≡ NoStep) × (new.current ≡ NoStep) × Undoes old.history new.history
Moves request.Redo old new = (old.current ≡ NoStep) × (new.current ≡ NoStep) × Redoes old.history new.history

-- the requests move the history, one after another
abbrev pub MovesAll : List Request → Course → Course → Type 0
MovesAll [] old new = new ≡ old
MovesAll (request ∷ requests) old new = (mid : Course) × Moves request old mid × MovesAll requests mid new

-- one session does these requests, and keeps what opens from where it is left
pub record IsOneSession (requests : List Request) (opened : KeptSteps) (new : OnDisk) : Type 0 where
  pub closed : KeptSteps
  pub did : DoesAll requests (idle opened) (idle closed)
  pub opens : Opens new.file new.journal closed
  pub moved : MovesAll requests (course_of (idle opened)) (course_of (idle closed))

-- ---- laws

-- Several runs do what one session does that is asked for all their requests; and so the file after each request is that of the history.
abbrev pub runs_are_one_session : Type 0
runs_are_one_session = (runs : List (List Request)) (kept : KeptSteps) (old new : OnDisk) → Opens old.file old.journal kept
    → AreRuns runs old new → IsOneSession (requests_of runs) kept new

-- A session, and then another one that opens what the first one left, are one session that does the requests of both.
abbrev pub sessions_are_one : Type 0
sessions_are_one = (requests others : List Request) (kept again : KeptSteps) (mid new : OnDisk) → IsOneSession requests kept mid
    → Opens mid.file mid.journal again → IsOneSession others again new → IsOneSession (requests ++ others) kept new

-- what is opened is what was opened before
abbrev pub one_opening : Type 0
one_opening = (file : Text) (journal : Option Text) (a b : KeptSteps) → Opens file journal a → Opens file journal b → a ≡ b

-- After any runs, as many undos as there is past, in whatever runs, lead to the first file of the history that was opened
-- before them. Where nothing was done to the file before them, that is the file itself.
abbrev pub undoing_all_leads_to_the_first_file : Type 0
undoing_all_leads_to_the_first_file = (runs back : List (List Request)) (old mid new : OnDisk) (first kept : KeptSteps)
    → Opens old.file old.journal first → AreRuns runs old mid → Opens mid.file mid.journal kept
    → AreRuns back mid new → requests_of back ≡ replicate (length kept.past) request.Undo → new.file ≡ first_of first.past first.present

-- From whatever is left, as many redos as there is future, in whatever runs, lead to the last file of the history.
abbrev pub redoing_all_leads_to_the_last_file : Type 0
redoing_all_leads_to_the_last_file = (on : List (List Request)) (mid new : OnDisk) (kept : KeptSteps) → Opens mid.file mid.journal kept
    → AreRuns on mid new → requests_of on ≡ replicate (length kept.future) request.Redo → new.file ≡ last_of kept.future kept.present
