-- Sessions whose last step is ended, and sessions that take back or make again all that there is.
use Rattle.bib_journal.proofs.Words.{◌≡◌, ◌≢◌, ℕ, zero, suc, ◌+◌, ◌≤◌, Bool, true, List, [], ◌∷◌, ◌++◌, length, drop, if◌then◌else◌, ◌⊎◌, inl, inr, Option, Some, None, ⊎_elim, refl, sym, ◌∙◌, ap, subst, arith, replicate, false≢true, take-replicate, length_push, length-replicate, KeptSteps}
use Rattle.bib_journal.proofs.Words.{history_of, Request, SessionFault, Unopened, Refused, JournalFull, NothingToUndo, NothingToRedo, BadJournal, JournalMismatch, StepOpen, NoOpenStep, Memory, last_of, SessionState, idle, after_edit, OpenStep, NoStep, NewStep, LastStep, Opens, DoesAll, Refuses}
use Rattle.bib_journal.proofs.Words.{StopsAt, Performs, OnDisk, ended, course_of, IsOneSession}
use Rattle.std.proofs.Common.{false}
use Rattle.std.proofs.lemmas.Bool.{cases_Bool}
use Rattle.bib_data.specs.declared.request.Request.TheVariants as request
use Rattle.bib_journal.specs.Session.{Ends}
use Rattle.bib_journal.specs.Runs.{leaves_open}
use Rattle.bib_journal.proofs.OneMoreRequest.{does_last}
use Rattle.bib_journal.proofs.SeveralRuns.{all_move, first_file, undone_to_first, redone_to_last, last_after, length-files_after}

-- ---- the step that is open

abbrev pub is_open : OpenStep → Bool
is_open NoStep = false
is_open (NewStep label) = true
is_open LastStep = true

open_after_edit : (current : OpenStep) → is_open (after_edit current) ≡ is_open current
open_after_edit NoStep = refl
open_after_edit (NewStep label) = refl
open_after_edit LastStep = refl

abbrev still_open : List Request → Bool → Bool
still_open requests b = leaves_open b requests

-- whether a step is open after requests depends on the requests alone, and on whether one was before
pub open_after : (requests : List Request) (old new : SessionState) → DoesAll requests old new → is_open new.current ≡ leaves_open (is_open old.current) requests
open_after [] old new did = ap (λ (s : SessionState). is_open s.current) did
open_after (request.Edit edit ∷ requests) old new did = open_after requests did.0 new did.2 ∙ ap (still_open requests) (ap is_open did.1.current ∙ open_after_edit old.current)
open_after (request.Place position edit ∷ requests) old new did = open_after requests did.0 new did.2 ∙ ap (still_open requests) (ap is_open did.1.made.current ∙ open_after_edit old.current)
open_after (request.Insert position text ∷ requests) old new did = open_after requests did.0 new did.2 ∙ ap (still_open requests) (ap is_open did.1.still ∙ sym (ap is_open did.1.closed))
open_after (request.Begin label ∷ requests) old new did = open_after requests did.0 new did.2 ∙ ap (still_open requests) (ap is_open did.1.current)
open_after (request.End ∷ requests) old new did = open_after requests did.0 new did.2 ∙ ap (still_open requests) (ap is_open did.1.closed)
open_after (request.Undo ∷ requests) old new did = open_after requests did.0 new did.2 ∙ ap (still_open requests) (ap is_open did.1.still ∙ sym (ap is_open did.1.closed))
open_after (request.Redo ∷ requests) old new did = open_after requests did.0 new did.2 ∙ ap (still_open requests) (ap is_open did.1.still ∙ sym (ap is_open did.1.closed))

none_is : (current : OpenStep) → is_open current ≡ false → current ≡ NoStep
none_is NoStep e = refl
none_is (NewStep label) e = absurd (false≢true (sym e))
none_is LastStep e = absurd (false≢true (sym e))

-- a session with no step open is known by its steps
pub closed_is_idle : (state : SessionState) → is_open state.current ≡ false → state ≡ idle state.steps
closed_is_idle state e = ap (λ (o : OpenStep). record { steps = state.steps; current = o }) (none_is state.current e)

open_is_some : (current : OpenStep) → is_open current ≡ true → current ≢ NoStep
open_is_some current e none = false≢true (sym (ap is_open none) ∙ e)

-- ---- a step that is ended

abbrev with_end : List Request → Bool → List Request
with_end requests b = if b then requests ++ request.End ∷ [] else requests

pub all_ended : (requests : List Request) (kept : KeptSteps) (reached : SessionState) → DoesAll requests (idle kept) reached → DoesAll (ended requests) (idle kept) (idle reached.steps)
all_ended requests kept reached did =
    let left : is_open reached.current ≡ leaves_open false requests = open_after requests (idle kept) reached did in
    ⊎_elim
    (λ (h : leaves_open false requests ≡ true).
    let ends : Ends reached (idle reached.steps) = record { current = open_is_some reached.current (left ∙ h); steps = refl; closed = refl } in
    subst (λ (b : Bool). DoesAll (with_end requests b) (idle kept) (idle reached.steps)) (sym h) (does_last requests request.End (idle kept) reached (idle reached.steps) did ends))
    (λ (h : leaves_open false requests ≡ false).
    subst (λ (b : Bool). DoesAll (with_end requests b) (idle kept) (idle reached.steps)) (sym h)
    (subst (λ (s : SessionState). DoesAll requests (idle kept) s) (closed_is_idle reached (left ∙ h)) did))
    (cases_Bool (leaves_open false requests))

-- what a session keeps after requests opens from a file and a journal: so much did one session, which keeps that
pub ended_session : (requests : List Request) (kept : KeptSteps) (reached : SessionState) (new : OnDisk) → DoesAll requests (idle kept) reached
    → Opens new.file new.journal reached.steps → (one : IsOneSession (ended requests) kept new) × (one.closed ≡ reached.steps)
ended_session requests kept reached new did opens =
    let all : DoesAll (ended requests) (idle kept) (idle reached.steps) = all_ended requests kept reached did in
    (record { closed = reached.steps; did = all; opens = opens; moved = all_move (ended requests) (idle kept) (idle reached.steps) all }, refl)

-- ---- all steps taken back, or made again

undos_count : (n : ℕ) (old new : SessionState) → DoesAll (replicate n request.Undo) old new → length new.steps.past + n ≡ length old.steps.past
undos_count zero old new did = let same = ap (λ (s : SessionState). length s.steps.past) did in omega (arith, same)
undos_count (suc n) old new did =
    omega (arith, ap length did.1.carried.past, length_push did.0.steps.past did.1.step, undos_count n did.0 new did.2)

redos_count : (n : ℕ) (old new : SessionState) → DoesAll (replicate n request.Redo) old new → length new.steps.future + n ≡ length old.steps.future
redos_count zero old new did = let same = ap (λ (s : SessionState). length s.steps.future) did in omega (arith, same)
redos_count (suc n) old new did = omega (arith, ap length did.1.carried.future, redos_count n did.0 new did.2)

undos_leave_none : (n : ℕ) → leaves_open false (replicate n request.Undo) ≡ false
undos_leave_none zero = refl
undos_leave_none (suc n) = undos_leave_none n

redos_leave_none : (n : ℕ) → leaves_open false (replicate n request.Redo) ≡ false
redos_leave_none zero = refl
redos_leave_none (suc n) = redos_leave_none n

-- where the request is refused, none is left to be taken back
undo_refused : (fault : SessionFault) (state : SessionState) → state.current ≡ NoStep → fault ≢ Memory → Refuses fault request.Undo state → state.steps.past ≡ []
undo_refused NothingToUndo state none told why = why.1
undo_refused StepOpen state none told why = absurd (why none)
undo_refused Memory state none told why = absurd (told refl)
undo_refused (Unopened fault) state none told why = absurd why
undo_refused (Refused fault) state none told why = absurd why
undo_refused JournalFull state none told why = absurd why
undo_refused NothingToRedo state none told why = absurd why
undo_refused (BadJournal place) state none told why = absurd why
undo_refused JournalMismatch state none told why = absurd why
undo_refused NoOpenStep state none told why = absurd why

redo_refused : (fault : SessionFault) (state : SessionState) → state.current ≡ NoStep → fault ≢ Memory → Refuses fault request.Redo state → state.steps.future ≡ []
redo_refused NothingToRedo state none told why = why.1
redo_refused StepOpen state none told why = absurd (why none)
redo_refused Memory state none told why = absurd (told refl)
redo_refused (Unopened fault) state none told why = absurd why
redo_refused (Refused fault) state none told why = absurd why
redo_refused JournalFull state none told why = absurd why
redo_refused NothingToUndo state none told why = absurd why
redo_refused (BadJournal place) state none told why = absurd why
redo_refused JournalMismatch state none told why = absurd why
redo_refused NoOpenStep state none told why = absurd why

-- a repeated request that is not done as often as it was asked for was refused
stopped_at : (n done : ℕ) (request : Request) (fault : Option SessionFault) (state : SessionState) → StopsAt fault (drop done (replicate n request)) state → done ≤ n
    → (n ≡ done) ⊎ ((f : SessionFault) × (fault ≡ Some f) × Refuses f request state)
stopped_at zero zero request None state stops within = inl refl
stopped_at zero zero request (Some fault) state stops within = absurd stops
stopped_at zero (suc done) request fault state stops within = absurd (omega (arith, within))
stopped_at (suc n) zero request None state stops within = absurd stops
stopped_at (suc n) zero request (Some fault) state stops within = inr (fault, refl, stops)
stopped_at (suc n) (suc done) request fault state stops within =
    ⊎_elim (λ e. inl (ap suc e)) (λ e. inr e) (stopped_at n done request fault state stops (omega (arith, within)))

done_within : (n done : ℕ) (request : Request) (fault : Option SessionFault) (old new : SessionState) → Performs (replicate n request) done fault old new → done ≤ n
done_within n done request fault old new performs = let within = performs.within in omega (arith, within, length-replicate n request)

-- how it was taken back: so often, and to the first file
pub undone_all : (n done : ℕ) (fault : Option SessionFault) (kept : KeptSteps) (reached : SessionState) → length kept.past ≤ n → fault ≢ Some Memory
    → Performs (replicate n request.Undo) done fault (idle kept) reached → (done ≡ length kept.past) × (reached.steps.present ≡ first_file (history_of kept))
undone_all n done fault kept reached enough told performs =
    let within : done ≤ n = done_within n done request.Undo fault (idle kept) reached performs in
    let did : DoesAll (replicate done request.Undo) (idle kept) reached = subst (λ (rs : List Request). DoesAll rs (idle kept) reached) (take-replicate done n request.Undo within) performs.did in
    let count : length reached.steps.past + done ≡ length kept.past = undos_count done (idle kept) reached did in
    let closed : is_open reached.current ≡ false = open_after (replicate done request.Undo) (idle kept) reached did ∙ undos_leave_none done in
    let all : done ≡ length kept.past = ⊎_elim
    (λ (e : n ≡ done). omega (arith, e, enough, count))
    (λ (stop : (f : SessionFault) × (fault ≡ Some f) × Refuses f request.Undo reached).
    let none : reached.steps.past ≡ [] = undo_refused stop.0 reached (none_is reached.current closed) (λ is. told (stop.1 ∙ ap Some is)) stop.2 in
    omega (arith, ap length none, count))
    (stopped_at n done request.Undo fault reached performs.stops within) in
    let as_many : DoesAll (replicate (length kept.past) request.Undo) (idle kept) (idle reached.steps) =
    subst (λ (k : ℕ). DoesAll (replicate k request.Undo) (idle kept) (idle reached.steps)) all (subst (λ (s : SessionState). DoesAll (replicate done request.Undo) (idle kept) s) (closed_is_idle reached closed) did) in
    (all, undone_to_first kept reached.steps (all_move (replicate (length kept.past) request.Undo) (idle kept) (idle reached.steps) as_many))

-- and made again: so often, and to the last file
pub redone_all : (n done : ℕ) (fault : Option SessionFault) (kept : KeptSteps) (reached : SessionState) → length kept.future ≤ n → fault ≢ Some Memory
    → Performs (replicate n request.Redo) done fault (idle kept) reached → (done ≡ length kept.future) × (reached.steps.present ≡ last_of kept.future kept.present)
redone_all n done fault kept reached enough told performs =
    let within : done ≤ n = done_within n done request.Redo fault (idle kept) reached performs in
    let did : DoesAll (replicate done request.Redo) (idle kept) reached = subst (λ (rs : List Request). DoesAll rs (idle kept) reached) (take-replicate done n request.Redo within) performs.did in
    let count : length reached.steps.future + done ≡ length kept.future = redos_count done (idle kept) reached did in
    let closed : is_open reached.current ≡ false = open_after (replicate done request.Redo) (idle kept) reached did ∙ redos_leave_none done in
    let all : done ≡ length kept.future = ⊎_elim
    (λ (e : n ≡ done). omega (arith, e, enough, count))
    (λ (stop : (f : SessionFault) × (fault ≡ Some f) × Refuses f request.Redo reached).
    let none : reached.steps.future ≡ [] = redo_refused stop.0 reached (none_is reached.current closed) (λ is. told (stop.1 ∙ ap Some is)) stop.2 in
    omega (arith, ap length none, count))
    (stopped_at n done request.Redo fault reached performs.stops within) in
    let as_many : DoesAll (replicate (length kept.future) request.Redo) (idle kept) (idle reached.steps) =
    subst (λ (k : ℕ). DoesAll (replicate k request.Redo) (idle kept) (idle reached.steps)) all (subst (λ (s : SessionState). DoesAll (replicate done request.Redo) (idle kept) s) (closed_is_idle reached closed) did) in (
      all,
      redone_to_last (length kept.future) (course_of (idle kept)) (course_of (idle reached.steps)) (length-files_after kept.future kept.present)
          (all_move (replicate (length kept.future) request.Redo) (idle kept) (idle reached.steps) as_many)
          ∙ last_after kept.future kept.present,
    )
