-- What a session answers to a request.
use Rattle.std.specs.Prelude.{ℕ, ◌≡◌, ◌≢◌, ◌≤◌, ◌⊎◌, List, [], ◌∷◌, length, take, drop, Option, Some, None}
use Rattle.bib_spec.specs.Bytes.{file_limit}
use Rattle.bib_spec.specs.Text.{Text}
use Rattle.bib_spec.specs.Pieces.{Piece}
use Rattle.bib_spec.specs.Reading.{bytes_of}
use Rattle.bib_spec.specs.Texts.{IsOpenable}
use Rattle.history_spec.specs.History.{Undoes, Redoes}
use Rattle.history_spec.specs.Steps.{Step, IsLabel, KeptSteps, IsAllowed, history_of, GoesBack, GoesOn}
use Rattle.edit_spec.specs.Edits.{edited}
use Rattle.edit_spec.specs.EditChunks.{pieces_of}
use Rattle.insert_spec.specs.Insertion.{inserted}
use Rattle.bib_store.specs.Readings.{OfReading, IsOpenFault}
use Rattle.bib_data.specs.declared.edit.Edit.{Edit}
use Rattle.bib_data.specs.declared.position.Position.{Position}
use Rattle.bib_edit.specs.declared.fault.EditFault.TheVariants as edit_fault
use Rattle.bib_keys.specs.MadeBase.{made_base}
use Rattle.bib_edit.specs.Asking.{OfEdit}
use Rattle.bib_edit.specs.Planning.{IsAllowedEdit, ArePiecesOf, IsRefusal}
use Rattle.bib_edit.specs.Positions.{IsPositionPlace, IsPositionRefusal, IsPlaceOf, edit_at}
use Rattle.bib_edit.specs.Insertions.{IsPlannedAs, IsAllowedInsertion, IsInsertionRefusal}
use Rattle.bib_edit.specs.declared.fault.EditFault.{EditFault}
use Rattle.journal_format.specs.Faults.{IsNoJournal}
use Rattle.bib_journal.specs.Loading.{Loads, IsMismatch}
use Rattle.bib_journal.specs.OpenSteps.{SessionState, after_edit, MakesSteps, LacksRoom, MovesTo}
use Rattle.bib_journal.specs.declared.open_step.OpenStep.TheVariants.{NoStep, NewStep}
use Rattle.bib_journal.specs.declared.fault.SessionFault.{SessionFault}
use Rattle.bib_journal.specs.declared.fault.SessionFault.TheVariants.{Unopened, Refused, JournalFull, NothingToUndo, NothingToRedo, BadJournal, JournalMismatch, StepOpen, NoOpenStep, Memory}
use Rattle.bib_data.specs.declared.request.Request.{Request}
use Rattle.bib_data.specs.declared.request.Request.TheVariants as request

-- ---- opening

-- a file to which nothing was done yet
abbrev pub started : Text → KeptSteps
started file = record { past = []; present = file; future = [] }

-- why no session is started: the bytes can't be opened; or memory was refused to a file that is not too long
abbrev pub RefusesStart : SessionFault → Text → Type 0
RefusesStart Memory file = length file ≤ file_limit
RefusesStart (Unopened fault) file = (fault.kind ≢ 10) × IsOpenFault file fault.kind fault.place
RefusesStart (Refused fault) file = ⊥
RefusesStart JournalFull file = ⊥
RefusesStart NothingToUndo file = ⊥
RefusesStart NothingToRedo file = ⊥
RefusesStart (BadJournal place) file = ⊥
RefusesStart JournalMismatch file = ⊥
RefusesStart StepOpen file = ⊥
RefusesStart NoOpenStep file = ⊥

-- why no session is loaded: the bytes can't be opened; or the text is no journal; or it does not belong to the file; or
-- memory was refused to a file that is not too long
abbrev pub RefusesLoad : SessionFault → Text → Text → Type 0
RefusesLoad Memory file text = length file ≤ file_limit
RefusesLoad (Unopened fault) file text = (fault.kind ≢ 10) × IsOpenFault file fault.kind fault.place
RefusesLoad (BadJournal place) file text = IsOpenable file × IsNoJournal text place
RefusesLoad JournalMismatch file text = IsMismatch file text
RefusesLoad (Refused fault) file text = ⊥
RefusesLoad JournalFull file text = ⊥
RefusesLoad NothingToUndo file text = ⊥
RefusesLoad NothingToRedo file text = ⊥
RefusesLoad StepOpen file text = ⊥
RefusesLoad NoOpenStep file text = ⊥

-- a session that is opened from the file and its journal keeps these steps; where there is no journal, nothing was done to the file
abbrev pub Opens : Text → Option Text → KeptSteps → Type 0
Opens file None kept = IsOpenable file × (kept ≡ started file)
Opens file (Some journal) kept = Loads file journal kept

-- why no session is opened
abbrev pub RefusesOpen : SessionFault → Text → Option Text → Type 0
RefusesOpen fault file None = RefusesStart fault file
RefusesOpen fault file (Some journal) = RefusesLoad fault file journal

-- a session that was opened so keeps these steps, and no step is open
pub record IsOpened (file : Text) (journal : Option Text) (state : SessionState) : Type 0 where
  pub opens : Opens file journal state.steps
  pub closed : state.current ≡ NoStep

-- ---- edits

-- the edit's pieces are too many to be kept, or too long
abbrev pub IsOverfull : Edit → SessionState → Type 0
IsOverfull edit state = OfReading state.steps.present (λ db. OfEdit edit (λ e. LacksRoom state.current (pieces_of made_base db e) state.steps))

-- Nothing refuses the edit, and there is room for its pieces. They go to the end of the past: as a step, or to the last one, if
-- that is open. The present is the file of what the edit makes.
pub record MakesEdit (edit : Edit) (old new : SessionState) : Type 0 where
  pub allowed : IsAllowedEdit old.steps.present edit
  pub pieces : List Piece
  pub planned : ArePiecesOf old.steps.present edit pieces
  pub room : LacksRoom old.current pieces old.steps → ⊥
  pub step : MakesSteps old.current pieces old.steps new.steps
  pub file : OfReading old.steps.present (λ db. OfEdit edit (λ e. MovesTo old.current (bytes_of (edited made_base db e)) (history_of old.steps) (history_of new.steps)))
  pub current : new.current ≡ after_edit old.current

-- why an edit is not made: a reason of its own, or else that it can't be kept; or memory was refused
abbrev pub RefusesEdit : SessionFault → Edit → SessionState → Type 0
RefusesEdit Memory edit state = Unit {0}
RefusesEdit (Refused fault) edit state = (fault ≢ edit_fault.Memory) × IsRefusal state.steps.present edit fault
RefusesEdit JournalFull edit state = IsAllowedEdit state.steps.present edit × IsOverfull edit state
RefusesEdit (Unopened fault) edit state = ⊥
RefusesEdit NothingToUndo edit state = ⊥
RefusesEdit NothingToRedo edit state = ⊥
RefusesEdit (BadJournal place) edit state = ⊥
RefusesEdit JournalMismatch edit state = ⊥
RefusesEdit StepOpen edit state = ⊥
RefusesEdit NoOpenStep edit state = ⊥

-- ---- edits at a position

-- the edit is made at the place that the position says, in place of its own
pub record MakesEditAt (position : Position) (edit : Edit) (old new : SessionState) : Type 0 where
  pub place : ℕ
  pub said : IsPlaceOf old.steps.present position edit place
  pub made : MakesEdit (edit_at place edit) old new

-- the fault is that of the position
pub record RefusesPosition (fault : SessionFault) (position : Position) (file : Text) : Type 0 where
  pub own : EditFault
  pub told : fault ≡ Refused own
  pub refused : IsPositionRefusal file position own

-- the edit is refused at the place that the position says
pub record RefusesEditThere (fault : SessionFault) (position : Position) (edit : Edit) (state : SessionState) : Type 0 where
  pub place : ℕ
  pub said : IsPlaceOf state.steps.present position edit place
  pub refused : RefusesEdit fault (edit_at place edit) state

-- why an edit is not made at a position: a reason against the position, or else against the edit there
abbrev pub RefusesEditAt : SessionFault → Position → Edit → SessionState → Type 0
RefusesEditAt fault position edit state = RefusesPosition fault position state.steps.present ⊎ RefusesEditThere fault position edit state

-- ---- insertions

-- the insertion of the text at the position is planned, with these pieces
pub record PlansInsertion (position : Position) (file text : Text) (pieces : List Piece) : Type 0 where
  pub place : ℕ
  pub said : IsPositionPlace file position place
  pub planned : IsPlannedAs file text place pieces

-- Nothing refuses the insertion, no step is open, and there is room for its pieces. They are a step of their own. The present is the
-- file with the text put in at the position.
pub record Inserts (position : Position) (text : Text) (old new : SessionState) : Type 0 where
  pub closed : old.current ≡ NoStep
  pub still : new.current ≡ NoStep
  pub pieces : List Piece
  pub plan : PlansInsertion position old.steps.present text pieces
  pub allowed : IsAllowedInsertion old.steps.present text plan.place
  pub room : LacksRoom NoStep pieces old.steps → ⊥
  pub step : MakesSteps NoStep pieces old.steps new.steps
  pub file : OfReading old.steps.present (λ db. OfReading text (λ added. MovesTo NoStep (bytes_of (inserted plan.place added db)) (history_of old.steps) (history_of new.steps)))

-- a reason refuses the insertion at the place that the position says
pub record RefusesInsertionThere (fault : EditFault) (position : Position) (file text : Text) : Type 0 where
  pub place : ℕ
  pub said : IsPositionPlace file position place
  pub refused : IsInsertionRefusal file text place fault

-- a reason refuses the insertion before it is planned: one against the position, or else one against the insertion there
pub record RefusesPlanned (fault : EditFault) (position : Position) (file text : Text) : Type 0 where
  pub opens : IsOpenable text
  pub told : fault ≢ edit_fault.Memory
  pub short : fault ≢ edit_fault.TextTooLong
  pub refused : IsPositionRefusal file position fault ⊎ RefusesInsertionThere fault position file text

-- why an insertion is not planned: the text can't be opened by itself, or else a reason; or memory was refused
abbrev pub RefusesPlan : SessionFault → Position → Text → Text → Type 0
RefusesPlan Memory position file text = Unit {0}
RefusesPlan (Unopened fault) position file text = (fault.kind ≢ 10) × IsOpenFault text fault.kind fault.place
RefusesPlan (Refused fault) position file text = RefusesPlanned fault position file text
RefusesPlan JournalFull position file text = ⊥
RefusesPlan NothingToUndo position file text = ⊥
RefusesPlan NothingToRedo position file text = ⊥
RefusesPlan (BadJournal place) position file text = ⊥
RefusesPlan JournalMismatch position file text = ⊥
RefusesPlan StepOpen position file text = ⊥
RefusesPlan NoOpenStep position file text = ⊥

-- the pieces of an insertion are made a step of their own, and lead to a file
pub record MakesInsertion (pieces : List Piece) (old new : SessionState) : Type 0 where
  pub leads : IsAllowed pieces old.steps.present
  pub room : LacksRoom NoStep pieces old.steps → ⊥
  pub step : MakesSteps NoStep pieces old.steps new.steps
  pub still : new.current ≡ NoStep

-- why the pieces of an insertion are not made a step: they can't be kept; or else they lead to no file; or memory was refused
pub data RefusesPieces (pieces : List Piece) (state : SessionState) : SessionFault → Type 0 where
  overfull : LacksRoom NoStep pieces state.steps → RefusesPieces pieces state JournalFull
  unopenable : (LacksRoom NoStep pieces state.steps → ⊥) → (IsAllowed pieces state.steps.present → ⊥) → RefusesPieces pieces state (Refused edit_fault.TextTooLong)
  no_memory : RefusesPieces pieces state Memory

-- the insertion is planned, and its pieces can't be kept
pub record LacksRoomFor (position : Position) (text : Text) (state : SessionState) : Type 0 where
  pub pieces : List Piece
  pub plan : PlansInsertion position state.steps.present text pieces
  pub full : LacksRoom NoStep pieces state.steps

-- the insertion is planned and can be kept, and a text would be too long
pub record MakesLongText (position : Position) (text : Text) (state : SessionState) : Type 0 where
  pub pieces : List Piece
  pub plan : PlansInsertion position state.steps.present text pieces
  pub room : LacksRoom NoStep pieces state.steps → ⊥
  pub long : IsInsertionRefusal state.steps.present text plan.place edit_fault.TextTooLong

-- Why a text is not put in: a step is open; or else it is not planned; or else its pieces can't be kept; or else a text would be too
-- long.
pub data RefusesInsertion (position : Position) (text : Text) (state : SessionState) : SessionFault → Type 0 where
  during : state.current ≢ NoStep → RefusesInsertion position text state StepOpen
  unplanned : (fault : SessionFault) → state.current ≡ NoStep → RefusesPlan fault position state.steps.present text → RefusesInsertion position text state fault
  full : state.current ≡ NoStep → LacksRoomFor position text state → RefusesInsertion position text state JournalFull
  long : state.current ≡ NoStep → MakesLongText position text state → RefusesInsertion position text state (Refused edit_fault.TextTooLong)

-- ---- steps of several edits

-- a step is opened, with this label
pub record Begins (word : Text) (old new : SessionState) : Type 0 where
  pub label : IsLabel word
  pub closed : old.current ≡ NoStep
  pub steps : new.steps ≡ old.steps
  pub current : new.current ≡ NewStep word

-- the step that is open is closed; one without an edit is forgotten
pub record Ends (old new : SessionState) : Type 0 where
  pub current : old.current ≢ NoStep
  pub steps : new.steps ≡ old.steps
  pub closed : new.current ≡ NoStep

-- why no step is opened: one is open; or memory was refused where none is
abbrev pub RefusesBegin : SessionFault → SessionState → Type 0
RefusesBegin Memory state = state.current ≡ NoStep
RefusesBegin StepOpen state = state.current ≢ NoStep
RefusesBegin (Unopened fault) state = ⊥
RefusesBegin (Refused fault) state = ⊥
RefusesBegin JournalFull state = ⊥
RefusesBegin NothingToUndo state = ⊥
RefusesBegin NothingToRedo state = ⊥
RefusesBegin (BadJournal place) state = ⊥
RefusesBegin JournalMismatch state = ⊥
RefusesBegin NoOpenStep state = ⊥

-- why no step is closed: none is open
pub record RefusesEnd (fault : SessionFault) (state : SessionState) : Type 0 where
  pub told : fault ≡ NoOpenStep
  pub none : state.current ≡ NoStep

-- ---- undo and redo

-- the last step is taken back, where none is open
pub record TakesBack (old new : SessionState) : Type 0 where
  pub step : Step
  pub closed : old.current ≡ NoStep
  pub still : new.current ≡ NoStep
  pub carried : GoesBack step old.steps new.steps
  pub file : Undoes (history_of old.steps) (history_of new.steps)

-- the step that was taken back last is made again, where none is open
pub record MakesAgain (old new : SessionState) : Type 0 where
  pub step : Step
  pub closed : old.current ≡ NoStep
  pub still : new.current ≡ NoStep
  pub carried : GoesOn step old.steps new.steps
  pub file : Redoes (history_of old.steps) (history_of new.steps)

-- why no step is taken back: one is open; or there is none; or memory was refused where there is one
abbrev pub RefusesUndo : SessionFault → SessionState → Type 0
RefusesUndo StepOpen state = state.current ≢ NoStep
RefusesUndo NothingToUndo state = (state.current ≡ NoStep) × (state.steps.past ≡ [])
RefusesUndo Memory state = (state.current ≡ NoStep) × (state.steps.past ≢ [])
RefusesUndo (Unopened fault) state = ⊥
RefusesUndo (Refused fault) state = ⊥
RefusesUndo JournalFull state = ⊥
RefusesUndo NothingToRedo state = ⊥
RefusesUndo (BadJournal place) state = ⊥
RefusesUndo JournalMismatch state = ⊥
RefusesUndo NoOpenStep state = ⊥

-- why no step is made again: one is open; or none was taken back; or memory was refused where one was
abbrev pub RefusesRedo : SessionFault → SessionState → Type 0
RefusesRedo StepOpen state = state.current ≢ NoStep
RefusesRedo NothingToRedo state = (state.current ≡ NoStep) × (state.steps.future ≡ [])
RefusesRedo Memory state = (state.current ≡ NoStep) × (state.steps.future ≢ [])
RefusesRedo (Unopened fault) state = ⊥
RefusesRedo (Refused fault) state = ⊥
RefusesRedo JournalFull state = ⊥
RefusesRedo NothingToUndo state = ⊥
RefusesRedo (BadJournal place) state = ⊥
RefusesRedo JournalMismatch state = ⊥
RefusesRedo NoOpenStep state = ⊥

-- ---- requests

-- what an accepted request does
abbrev pub Does : Request → SessionState → SessionState → Type 0
Does (request.Edit edit) old new = MakesEdit edit old new
Does (request.Place position edit) old new = MakesEditAt position edit old new
Does (request.Insert position text) old new = Inserts position text old new
Does (request.Begin label) old new = Begins label old new
Does request.End old new = Ends old new
Does request.Undo old new = TakesBack old new
Does request.Redo old new = MakesAgain old new

-- why a request is refused
abbrev pub Refuses : SessionFault → Request → SessionState → Type 0
Refuses fault (request.Edit edit) state = RefusesEdit fault edit state
Refuses fault (request.Place position edit) state = RefusesEditAt fault position edit state
Refuses fault (request.Insert position text) state = RefusesInsertion position text state fault
Refuses fault (request.Begin label) state = RefusesBegin fault state
Refuses fault request.End state = RefusesEnd fault state
Refuses fault request.Undo state = RefusesUndo fault state
Refuses fault request.Redo state = RefusesRedo fault state

-- the requests are accepted, one after another
abbrev pub DoesAll : List Request → SessionState → SessionState → Type 0
DoesAll [] old new = new ≡ old
DoesAll (request ∷ requests) old new = (mid : SessionState) × Does request old mid × DoesAll requests mid new

-- the first of these requests is refused with this fault, if there is one; else none is left
abbrev pub StopsAt : Option SessionFault → List Request → SessionState → Type 0
StopsAt None [] state = Unit {0}
StopsAt None (request ∷ requests) state = ⊥
StopsAt (Some fault) [] state = ⊥
StopsAt (Some fault) (request ∷ requests) state = Refuses fault request state

-- the first `done` requests are accepted, one after another; the next one, if there is one, is refused and changes nothing
pub record Performs (requests : List Request) (done : ℕ) (fault : Option SessionFault) (old new : SessionState) : Type 0 where
  pub within : done ≤ length requests
  pub did : DoesAll (take done requests) old new
  pub stops : StopsAt fault (drop done requests) new
