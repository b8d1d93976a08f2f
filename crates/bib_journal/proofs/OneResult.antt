-- What a session answers is determined by what it keeps and by what it is asked.
use Rattle.bib_journal.proofs.Words.{◌≡◌, ◌≢◌, ℕ, zero, suc, ◌≤◌, ◌<◌, List, [], ◌∷◌, ◌++◌, length, take, drop, if◌then◌else◌, Option, Some, None, IfSome, ◌⊎◌, inl, inr, ⊎_elim, refl, sym, ◌∙◌, ap, subst, arith, same_from_push, length_push, Text, Piece, applied, IsOpenable, Step, KeptSteps}
use Rattle.bib_journal.proofs.Words.{with_edit, before, Adds, GoesBack, GoesOn, Edit, Request, made_base, EditFault, AsksFor, OfEdit, IsAllowedEdit, asked_for, SessionFault, Unopened, Refused, JournalFull, NothingToUndo, NothingToRedo, BadJournal, JournalMismatch, StepOpen, NoOpenStep, Memory}
use Rattle.bib_journal.proofs.Words.{Saved, OpenStep, NoStep, NewStep, LastStep, Saves, SessionState, JoinsLast, MakesSteps, LacksRoom, new_step, MakesEdit, Does, DoesAll, Refuses, StopsAt, IsGood}
use Rattle.std.proofs.Common.{◌==◌}
use Rattle.std.proofs.lemmas.Option.{none-some, same_Some}
use Rattle.edit_spec.specs.Edits as edits
use Rattle.edit_spec.specs.Edits.{rank, IsFirstRefusal}
use Rattle.bib_data.specs.declared.request.Request.TheVariants as request
use Rattle.bib_edit.specs.declared.fault.EditFault.TheVariants as edit_fault
use Rattle.bib_edit.specs.Faults.{reason_of}
use Rattle.bib_store.specs.Readings.{OfReading}
use Rattle.std.proofs.Common.{ap₂}
use Rattle.bib_spec.specs.Reading.{Reading, Reads}
use Rattle.insert_spec.specs.Insertion.{pieces_of, IsFirstRefusedInsertion}
use Rattle.bib_scan.specs.declared.fault.ReadFault.{ReadFault}
use Rattle.bib_store.specs.Readings.{IsOpenFault}
use Rattle.bib_data.specs.declared.position.Position.{Position}
use Rattle.bib_data.specs.declared.position.Position.TheVariants.{Number, End, Before, After}
use Rattle.bib_edit.specs.Positions.{count_meant, NamesOneEntry, IsCountFault, IsPositionPlace, IsPositionRefusal, IsPlaceOf, edit_at}
use Rattle.bib_edit.specs.Insertions.{IsInsertionRefusal}
use Rattle.bib_journal.specs.Session.{MakesEditAt, RefusesEdit, RefusesEditThere, RefusesEditAt, PlansInsertion, Inserts, RefusesPlanned, RefusesPlan, LacksRoomFor, MakesLongText, RefusesInsertion}
use Rattle.bib_journal.specs.OneResult.{one_result}
use Rattle.bib_journal.proofs.OpenFaults.{SamePlace, open_fault, one_open_fault}
use Rattle.bib_journal.proofs.SeveralRuns.{does_keeps_good}

-- ---- steps

same_steps : (a b : KeptSteps) → a.past ≡ b.past → a.present ≡ b.present → a.future ≡ b.future → a ≡ b
same_steps a b past present future =
    ap (λ (x : List Step). record { past = x; present = a.present; future = a.future }) past
    ∙ ap (λ (x : Text). record { past = b.past; present = x; future = a.future }) present
    ∙ ap (λ (x : List Step). record { past = b.past; present = b.present; future = x }) future

same_state : (a b : SessionState) → a.steps ≡ b.steps → a.current ≡ b.current → a ≡ b
same_state a b steps current =
    ap (λ (x : KeptSteps). record { steps = x; current = a.current }) steps ∙ ap (λ (x : OpenStep). record { steps = b.steps; current = x }) current

one_adds : (step : Step) (old a b : KeptSteps) → Adds step old a → Adds step old b → a ≡ b
one_adds step old a b x y = same_steps a b (x.past ∙ sym y.past) (x.present ∙ sym y.present) (x.future ∙ sym y.future)

one_joins : (pieces : List Piece) (old a b : KeptSteps) → JoinsLast pieces old a → JoinsLast pieces old b → a ≡ b
one_joins pieces old a b (front, step, x) (front', step', y) =
    let last : (front ≡ front') × (step ≡ step') = same_from_push front front' step step' (sym x.last ∙ y.last) in
    same_steps a b
    (x.past ∙ ap (λ (f : List Step). f ++ with_edit step pieces ∷ []) last.0 ∙ ap (λ (s : Step). front' ++ with_edit s pieces ∷ []) last.1 ∙ sym y.past)
    (x.present ∙ sym y.present) (x.future ∙ sym y.future)

one_makes : (current : OpenStep) (pieces : List Piece) (old a b : KeptSteps) → MakesSteps current pieces old a → MakesSteps current pieces old b → a ≡ b
one_makes NoStep pieces old a b x y = one_adds (new_step NoStep pieces) old a b x y
one_makes (NewStep label) pieces old a b x y = one_adds (new_step (NewStep label) pieces) old a b x y
one_makes LastStep pieces old a b x y = one_joins pieces old a b x y

-- ---- insertions that are planned

-- the position says one place
pub one_place : (position : Position) (file : Text) (n m : ℕ) → IsOpenable file → IsPositionPlace file position n → IsPositionPlace file position m → n ≡ m
one_place position file n m opens x y = (x opens.0 opens.1.reads).1 ∙ sym (y opens.0 opens.1.reads).1

-- an insertion has one plan
pub one_plan : (position : Position) (file text : Text) (pieces others : List Piece) → PlansInsertion position file text pieces → PlansInsertion position file text others → pieces ≡ others
one_plan position file text pieces others x y =
    let db = x.planned.file_opens in
    let added = x.planned.text_opens in
    x.planned.pieces_are db.0 db.1.reads added.0 added.1.reads ∙ ap (λ n. pieces_of n added.0 db.0) (one_place position file x.place y.place db x.said y.said)
    ∙ sym (y.planned.pieces_are db.0 db.1.reads added.0 added.1.reads)

-- ---- what is done

one_edit : (edit : Edit) (old a b : SessionState) → IsOpenable old.steps.present → MakesEdit edit old a → MakesEdit edit old b → a ≡ b
one_edit edit old a b opens x y =
    let one : (e : edits.Edit) × AsksFor edit e = asked_for edit in
    let pieces : x.pieces ≡ y.pieces = x.planned opens.0 opens.1.reads one.0 one.1 ∙ sym (y.planned opens.0 opens.1.reads one.0 one.1) in
    same_state a b
    (one_makes old.current y.pieces old.steps a.steps b.steps (subst (λ (ps : List Piece). MakesSteps old.current ps old.steps a.steps) pieces x.step) y.step)
    (x.current ∙ sym y.current)

one_edit_at : (position : Position) (edit : Edit) (old a b : SessionState) → IsOpenable old.steps.present → MakesEditAt position edit old a → MakesEditAt position edit old b → a ≡ b
one_edit_at position edit old a b opens x y =
    let same : x.place ≡ y.place = (x.said opens.0 opens.1.reads).1 ∙ sym (y.said opens.0 opens.1.reads).1 in
    one_edit (edit_at y.place edit) old a b opens (subst (λ (n : ℕ). MakesEdit (edit_at n edit) old a) same x.made) y.made

one_insertion : (position : Position) (text : Text) (old a b : SessionState) → Inserts position text old a → Inserts position text old b → a ≡ b
one_insertion position text old a b x y =
    let pieces : x.pieces ≡ y.pieces = one_plan position old.steps.present text x.pieces y.pieces x.plan y.plan in
    same_state a b (one_makes NoStep y.pieces old.steps a.steps b.steps (subst (λ (ps : List Piece). MakesSteps NoStep ps old.steps a.steps) pieces x.step) y.step) (x.still ∙ sym y.still)

one_back : (old a b : KeptSteps) (s t : Step) → GoesBack s old a → GoesBack t old b → a ≡ b
one_back old a b s t x y =
    let last : (a.past ≡ b.past) × (s ≡ t) = same_from_push a.past b.past s t (sym x.past ∙ y.past) in
    same_steps a b last.0 (x.present ∙ ap (λ (s : Step). before s.pieces old.present) last.1 ∙ sym y.present) (x.future ∙ ap (λ (s : Step). s ∷ old.future) last.1 ∙ sym y.future)

same_first : (s t : Step) (ss ts : List Step) → s ∷ ss ≡ t ∷ ts → (s ≡ t) × (ss ≡ ts)
same_first s t ss ts e = (cc, cc)

one_on : (old a b : KeptSteps) (s t : Step) → GoesOn s old a → GoesOn t old b → a ≡ b
one_on old a b s t x y =
    let next : (s ≡ t) × (a.future ≡ b.future) = same_first s t a.future b.future (sym x.future ∙ y.future) in
    same_steps a b (x.past ∙ ap (λ (s : Step). old.past ++ s ∷ []) next.0 ∙ sym y.past) (x.present ∙ ap (λ (s : Step). applied s.pieces old.present) next.0 ∙ sym y.present) next.1

pub one_does : (request : Request) (old a b : SessionState) → IsOpenable old.steps.present → Does request old a → Does request old b → a ≡ b
one_does (request.Edit edit) old a b opens x y = one_edit edit old a b opens x y
one_does (request.Place position edit) old a b opens x y = one_edit_at position edit old a b opens x y
one_does (request.Insert position text) old a b opens x y = one_insertion position text old a b x y
one_does (request.Begin label) old a b opens x y = same_state a b (x.steps ∙ sym y.steps) (x.current ∙ sym y.current)
one_does request.End old a b opens x y = same_state a b (x.steps ∙ sym y.steps) (x.closed ∙ sym y.closed)
one_does request.Undo old a b opens x y = same_state a b (one_back old.steps a.steps b.steps x.step y.step x.carried y.carried) (x.still ∙ sym y.still)
one_does request.Redo old a b opens x y = same_state a b (one_on old.steps a.steps b.steps x.step y.step x.carried y.carried) (x.still ∙ sym y.still)

-- ---- why an edit is refused

-- the reason that a fault tells of, and the fault that tells of it
told_reason : (fault : EditFault) → fault ≢ edit_fault.Memory → (reason : edits.EditFault) × (reason_of fault ≡ Some reason)
told_reason edit_fault.BadKey told = (edits.BadKey, refl)
told_reason edit_fault.BadName told = (edits.BadName, refl)
told_reason edit_fault.BadValue told = (edits.BadValue, refl)
told_reason edit_fault.BadPosition told = (edits.BadPosition, refl)
told_reason edit_fault.NotFound told = (edits.NotFound, refl)
told_reason edit_fault.Ambiguous told = (edits.Ambiguous, refl)
told_reason edit_fault.KeyInUse told = (edits.KeyInUse, refl)
told_reason edit_fault.NameInUse told = (edits.NameInUse, refl)
told_reason edit_fault.Referred told = (edits.Referred, refl)
told_reason edit_fault.WouldMerge told = (edits.WouldMerge, refl)
told_reason edit_fault.FileTooLong told = (edits.FileTooLong, refl)
told_reason edit_fault.TextTooLong told = (edits.TextTooLong, refl)
told_reason edit_fault.Memory told = absurd (told refl)

abbrev fault_of : ℕ → EditFault
fault_of n =
    if n == 0 then edit_fault.BadKey
    else if n == 1 then edit_fault.BadName
    else if n == 2 then edit_fault.BadValue
    else if n == 3 then edit_fault.BadPosition
    else if n == 4 then edit_fault.NotFound
    else if n == 5 then edit_fault.Ambiguous
    else if n == 6 then edit_fault.KeyInUse
    else if n == 7 then edit_fault.NameInUse
    else if n == 8 then edit_fault.Referred
    else if n == 9 then edit_fault.WouldMerge
    else if n == 10 then edit_fault.FileTooLong
    else edit_fault.TextTooLong

-- the rank of its reason tells a fault
fault_by_rank : (fault : EditFault) (reason : edits.EditFault) → reason_of fault ≡ Some reason → fault ≡ fault_of (rank reason)
fault_by_rank edit_fault.BadKey reason e = ap (λ r. fault_of (rank r)) (same_Some edits.BadKey reason e)
fault_by_rank edit_fault.BadName reason e = ap (λ r. fault_of (rank r)) (same_Some edits.BadName reason e)
fault_by_rank edit_fault.BadValue reason e = ap (λ r. fault_of (rank r)) (same_Some edits.BadValue reason e)
fault_by_rank edit_fault.BadPosition reason e = ap (λ r. fault_of (rank r)) (same_Some edits.BadPosition reason e)
fault_by_rank edit_fault.NotFound reason e = ap (λ r. fault_of (rank r)) (same_Some edits.NotFound reason e)
fault_by_rank edit_fault.Ambiguous reason e = ap (λ r. fault_of (rank r)) (same_Some edits.Ambiguous reason e)
fault_by_rank edit_fault.KeyInUse reason e = ap (λ r. fault_of (rank r)) (same_Some edits.KeyInUse reason e)
fault_by_rank edit_fault.NameInUse reason e = ap (λ r. fault_of (rank r)) (same_Some edits.NameInUse reason e)
fault_by_rank edit_fault.Referred reason e = ap (λ r. fault_of (rank r)) (same_Some edits.Referred reason e)
fault_by_rank edit_fault.WouldMerge reason e = ap (λ r. fault_of (rank r)) (same_Some edits.WouldMerge reason e)
fault_by_rank edit_fault.FileTooLong reason e = ap (λ r. fault_of (rank r)) (same_Some edits.FileTooLong reason e)
fault_by_rank edit_fault.TextTooLong reason e = ap (λ r. fault_of (rank r)) (same_Some edits.TextTooLong reason e)
fault_by_rank edit_fault.Memory reason e = absurd (none-some reason e)

-- an edit is refused for a reason of its own, which is the first of what it asks for
pub record IsReason (edit : Edit) (file : Text) (fault : EditFault) : Type 0 where
  pub reason : edits.EditFault
  pub told : reason_of fault ≡ Some reason
  pub first : OfReading file (λ db. OfEdit edit (λ e. IsFirstRefusal made_base db e reason))

-- why an edit is refused that memory is not refused to: for a reason, or since it can't be kept
edit_refused : (edit : Edit) (fault : SessionFault) (old : SessionState) → fault ≢ Memory → Refuses fault (request.Edit edit) old →
    ((own : EditFault) × (fault ≡ Refused own) × IsReason edit old.steps.present own) ⊎ ((fault ≡ JournalFull) × IsAllowedEdit old.steps.present edit)
edit_refused edit (Refused own) old told why =
    let reason = told_reason own why.0 in
    inl (
      own,
      refl,
      record {
        reason = reason.0;
        told = reason.1;
        first = subst (λ (o : Option edits.EditFault). IfSome o (λ r. OfReading old.steps.present (λ db. OfEdit edit (λ e. IsFirstRefusal made_base db e r)))) reason.1 why.1;
      },
    )
edit_refused edit JournalFull old told why = inr (refl, why.0)
edit_refused edit Memory old told why = absurd (told refl)
edit_refused edit (Unopened fault) old told why = absurd why
edit_refused edit NothingToUndo old told why = absurd why
edit_refused edit NothingToRedo old told why = absurd why
edit_refused edit (BadJournal place) old told why = absurd why
edit_refused edit JournalMismatch old told why = absurd why
edit_refused edit StepOpen old told why = absurd why
edit_refused edit NoOpenStep old told why = absurd why

-- an edit that a reason refuses is not allowed
not_allowed : (edit : Edit) (file : Text) (fault : EditFault) → IsOpenable file → IsReason edit file fault → IsAllowedEdit file edit → ⊥
not_allowed edit file fault opens is allowed =
    let one : (e : edits.Edit) × AsksFor edit e = asked_for edit in
    allowed opens.0 opens.1.reads one.0 one.1 is.reason (is.first opens.0 opens.1.reads one.0 one.1).holds

one_reason : (edit : Edit) (file : Text) (fault other : EditFault) → IsOpenable file → IsReason edit file fault → IsReason edit file other → fault ≡ other
one_reason edit file fault other opens is also =
    let one : (e : edits.Edit) × AsksFor edit e = asked_for edit in
    let first = is.first opens.0 opens.1.reads one.0 one.1 in
    let first' = also.first opens.0 opens.1.reads one.0 one.1 in
    let same : rank is.reason ≡ rank also.reason = omega (arith, λ (h : rank also.reason < rank is.reason). first.first also.reason h first'.holds, λ (h : rank is.reason < rank also.reason). first'.first is.reason h first.holds) in
    fault_by_rank fault is.reason is.told ∙ ap fault_of same ∙ sym (fault_by_rank other also.reason also.told)

-- ---- why a request is refused

-- no step is begun where one is open
begin_why : (label : Text) (fault : SessionFault) (old : SessionState) → fault ≢ Memory → Refuses fault (request.Begin label) old → (fault ≡ StepOpen) × (old.current ≢ NoStep)
begin_why label StepOpen old told why = (refl, why)
begin_why label Memory old told why = absurd (told refl)
begin_why label (Unopened fault) old told why = absurd why
begin_why label (Refused fault) old told why = absurd why
begin_why label JournalFull old told why = absurd why
begin_why label NothingToUndo old told why = absurd why
begin_why label NothingToRedo old told why = absurd why
begin_why label (BadJournal place) old told why = absurd why
begin_why label JournalMismatch old told why = absurd why
begin_why label NoOpenStep old told why = absurd why

-- no step is taken back where one is open, or where there is none
undo_why : (fault : SessionFault) (old : SessionState) → fault ≢ Memory → Refuses fault request.Undo old → ((fault ≡ StepOpen) × (old.current ≢ NoStep)) ⊎ ((fault ≡ NothingToUndo) × (old.current ≡ NoStep) × (old.steps.past ≡ []))
undo_why NothingToUndo old told why = inr (refl, why.0, why.1)
undo_why StepOpen old told why = inl (refl, why)
undo_why Memory old told why = absurd (told refl)
undo_why (Unopened fault) old told why = absurd why
undo_why (Refused fault) old told why = absurd why
undo_why JournalFull old told why = absurd why
undo_why NothingToRedo old told why = absurd why
undo_why (BadJournal place) old told why = absurd why
undo_why JournalMismatch old told why = absurd why
undo_why NoOpenStep old told why = absurd why

-- no step is made again where one is open, or where none was taken back
redo_why : (fault : SessionFault) (old : SessionState) → fault ≢ Memory → Refuses fault request.Redo old → ((fault ≡ StepOpen) × (old.current ≢ NoStep)) ⊎ ((fault ≡ NothingToRedo) × (old.current ≡ NoStep) × (old.steps.future ≡ []))
redo_why NothingToRedo old told why = inr (refl, why.0, why.1)
redo_why StepOpen old told why = inl (refl, why)
redo_why Memory old told why = absurd (told refl)
redo_why (Unopened fault) old told why = absurd why
redo_why (Refused fault) old told why = absurd why
redo_why JournalFull old told why = absurd why
redo_why NothingToUndo old told why = absurd why
redo_why (BadJournal place) old told why = absurd why
redo_why JournalMismatch old told why = absurd why
redo_why NoOpenStep old told why = absurd why

-- an edit that can't be kept has no room
not_full : (edit : Edit) (fault : SessionFault) (old new : SessionState) → IsOpenable old.steps.present → fault ≡ JournalFull → Refuses fault (request.Edit edit) old → MakesEdit edit old new → ⊥
not_full edit fault old new opens e why makes =
    let full : Refuses JournalFull (request.Edit edit) old = subst (λ (f : SessionFault). Refuses f (request.Edit edit) old) e why in
    let one : (e : edits.Edit) × AsksFor edit e = asked_for edit in
    makes.room (subst (λ (ps : List Piece). LacksRoom old.current ps old.steps) (sym (makes.planned opens.0 opens.1.reads one.0 one.1)) (full.1 opens.0 opens.1.reads one.0 one.1))

-- two ways that exclude one another
abbrev one_of : {A B A' B' C : Type 0} → (A → A' → C) → (A → B' → C) → (B → A' → C) → (B → B' → C) → A ⊎ B → A' ⊎ B' → C
one_of aa ab ba bb (inl x) (inl y) = aa x y
one_of aa ab ba bb (inl x) (inr y) = ab x y
one_of aa ab ba bb (inr x) (inl y) = ba x y
one_of aa ab ba bb (inr x) (inr y) = bb x y

-- an edit is not both refused and made
edit_not_both : (edit : Edit) (fault : SessionFault) (old new : SessionState) → IsOpenable old.steps.present → fault ≢ Memory → Refuses fault (request.Edit edit) old → MakesEdit edit old new → ⊥
edit_not_both edit fault old new opens told why does = ⊎_elim
    (λ r. not_allowed edit old.steps.present r.0 opens r.2 does.allowed)
    (λ full. not_full edit fault old new opens full.0 why does)
    (edit_refused edit fault old told why)

-- an edit is refused for one reason
edit_one_refusal : (edit : Edit) (fault other : SessionFault) (old : SessionState) → IsOpenable old.steps.present → fault ≢ Memory → other ≢ Memory
    → Refuses fault (request.Edit edit) old → Refuses other (request.Edit edit) old → fault ≡ other
edit_one_refusal edit fault other old opens told told' why why' = one_of
    (λ r r'. r.1 ∙ ap Refused (one_reason edit old.steps.present r.0 r'.0 opens r.2 r'.2) ∙ sym r'.1)
    (λ r full. absurd (not_allowed edit old.steps.present r.0 opens r.2 full.1))
    (λ full r. absurd (not_allowed edit old.steps.present r.0 opens r.2 full.1))
    (λ full full'. full.0 ∙ sym full'.0)
    (edit_refused edit fault old told why) (edit_refused edit other old told' why')

-- ---- why an edit is refused at a position

-- a key by which one entry is meant is no reason
meant_names : (key file : Text) (fault : EditFault) (db : Reading) → Reads file db → IsCountFault file key fault → count_meant key db ≡ 1 → ⊥
meant_names key file fault db reads (IsCountFault.none_meant none) names = omega (arith, none db reads, names)
meant_names key file fault db reads (IsCountFault.many_meant many) names = omega (arith, many db reads, names)

one_count : (key file : Text) (fault other : EditFault) → IsOpenable file → IsCountFault file key fault → IsCountFault file key other → fault ≡ other
one_count key file fault other opens (IsCountFault.none_meant none) (IsCountFault.none_meant none') = refl
one_count key file fault other opens (IsCountFault.none_meant none) (IsCountFault.many_meant many) = absurd (omega (arith, none opens.0 opens.1.reads, many opens.0 opens.1.reads))
one_count key file fault other opens (IsCountFault.many_meant many) (IsCountFault.none_meant none) = absurd (omega (arith, none opens.0 opens.1.reads, many opens.0 opens.1.reads))
one_count key file fault other opens (IsCountFault.many_meant many) (IsCountFault.many_meant many') = refl

-- a position that is refused names no entry, or several
pub position_names : (position : Position) (file : Text) (fault : EditFault) (db : Reading) → Reads file db → IsPositionRefusal file position fault → NamesOneEntry position db → ⊥
position_names (Number n) file fault db reads why names = why
position_names End file fault db reads why names = why
position_names (Before key) file fault db reads why names = meant_names key file fault db reads why names
position_names (After key) file fault db reads why names = meant_names key file fault db reads why names

-- a position is refused for one reason
pub one_position : (position : Position) (file : Text) (fault other : EditFault) → IsOpenable file → IsPositionRefusal file position fault → IsPositionRefusal file position other → fault ≡ other
one_position (Number n) file fault other opens why why' = absurd why
one_position End file fault other opens why why' = absurd why
one_position (Before key) file fault other opens why why' = one_count key file fault other opens why why'
one_position (After key) file fault other opens why why' = one_count key file fault other opens why why'

-- the edit at the place that the position says
there : (position : Position) (edit : Edit) (fault : SessionFault) (old : SessionState) (place : ℕ) → IsOpenable old.steps.present → IsPlaceOf old.steps.present position edit place
    → RefusesEditThere fault position edit old → Refuses fault (request.Edit (edit_at place edit)) old
there position edit fault old place opens said why =
    subst (λ (n : ℕ). RefusesEdit fault (edit_at n edit) old) ((why.said opens.0 opens.1.reads).1 ∙ sym (said opens.0 opens.1.reads).1) why.refused

at_not_both : (position : Position) (edit : Edit) (fault : SessionFault) (old new : SessionState) → IsOpenable old.steps.present → fault ≢ Memory
    → RefusesEditAt fault position edit old → MakesEditAt position edit old new → ⊥
at_not_both position edit fault old new opens told why does = ⊎_elim
    (λ p. position_names position old.steps.present p.own opens.0 opens.1.reads p.refused (does.said opens.0 opens.1.reads).0)
    (λ t. edit_not_both (edit_at does.place edit) fault old new opens told (there position edit fault old does.place opens does.said t) does.made)
    why

at_one_refusal : (position : Position) (edit : Edit) (fault other : SessionFault) (old : SessionState) → IsOpenable old.steps.present → fault ≢ Memory → other ≢ Memory
    → RefusesEditAt fault position edit old → RefusesEditAt other position edit old → fault ≡ other
at_one_refusal position edit fault other old opens told told' why why' = one_of
    (λ p p'. p.told ∙ ap Refused (one_position position old.steps.present p.own p'.own opens p.refused p'.refused) ∙ sym p'.told)
    (λ p t. absurd (position_names position old.steps.present p.own opens.0 opens.1.reads p.refused (t.said opens.0 opens.1.reads).0))
    (λ t p. absurd (position_names position old.steps.present p.own opens.0 opens.1.reads p.refused (t.said opens.0 opens.1.reads).0))
    (λ t t'. edit_one_refusal (edit_at t.place edit) fault other old opens told told' t.refused (there position edit other old t.place opens t.said t'))
    why why'

-- ---- why a text is not put in

-- each reason but the last has a lower rank than the last
short_rank : (fault : EditFault) (reason : edits.EditFault) → fault ≢ edit_fault.TextTooLong → reason_of fault ≡ Some reason → rank reason < rank edits.TextTooLong
short_rank edit_fault.BadKey reason short e = omega (arith, ap rank (same_Some edits.BadKey reason e))
short_rank edit_fault.BadName reason short e = omega (arith, ap rank (same_Some edits.BadName reason e))
short_rank edit_fault.BadValue reason short e = omega (arith, ap rank (same_Some edits.BadValue reason e))
short_rank edit_fault.BadPosition reason short e = omega (arith, ap rank (same_Some edits.BadPosition reason e))
short_rank edit_fault.NotFound reason short e = omega (arith, ap rank (same_Some edits.NotFound reason e))
short_rank edit_fault.Ambiguous reason short e = omega (arith, ap rank (same_Some edits.Ambiguous reason e))
short_rank edit_fault.KeyInUse reason short e = omega (arith, ap rank (same_Some edits.KeyInUse reason e))
short_rank edit_fault.NameInUse reason short e = omega (arith, ap rank (same_Some edits.NameInUse reason e))
short_rank edit_fault.Referred reason short e = omega (arith, ap rank (same_Some edits.Referred reason e))
short_rank edit_fault.WouldMerge reason short e = omega (arith, ap rank (same_Some edits.WouldMerge reason e))
short_rank edit_fault.FileTooLong reason short e = omega (arith, ap rank (same_Some edits.FileTooLong reason e))
short_rank edit_fault.TextTooLong reason short e = absurd (short refl)
short_rank edit_fault.Memory reason short e = absurd (none-some reason e)

-- the first reason against an insertion
first_reason : (file text : Text) (place : ℕ) (fault : EditFault) → fault ≢ edit_fault.Memory → IsInsertionRefusal file text place fault
    → (reason : edits.EditFault) × (reason_of fault ≡ Some reason) × OfReading file (λ db. OfReading text (λ added. IsFirstRefusedInsertion place added db reason))
first_reason file text place fault told why =
    let reason = told_reason fault told in (
      reason.0,
      reason.1,
      subst (λ (o : Option edits.EditFault). IfSome o (λ r. OfReading file (λ db. OfReading text (λ added. IsFirstRefusedInsertion place added db r)))) reason.1 why,
    )

-- an insertion that is planned is not refused before that
planned_not_refused : (position : Position) (file text : Text) (pieces : List Piece) (fault : EditFault) → PlansInsertion position file text pieces → RefusesPlanned fault position file text → ⊥
planned_not_refused position file text pieces fault plan why =
    let db = plan.planned.file_opens in
    let added = plan.planned.text_opens in
    ⊎_elim
    (λ p. position_names position file fault db.0 db.1.reads p (plan.said db.0 db.1.reads).0)
    (λ t.
    let there = subst (λ (n : ℕ). IsInsertionRefusal file text n fault) (one_place position file t.place plan.place db t.said plan.said) t.refused in
    let reason = first_reason file text plan.place fault why.told there in
    plan.planned.planned db.0 db.1.reads added.0 added.1.reads reason.0 (short_rank fault reason.0 why.short reason.1) (reason.2 db.0 db.1.reads added.0 added.1.reads).holds)
    why.refused

-- an insertion is refused for one reason before it is planned
one_planned : (position : Position) (file text : Text) (fault other : EditFault) → IsOpenable file → RefusesPlanned fault position file text → RefusesPlanned other position file text → fault ≡ other
one_planned position file text fault other db why why' = one_of
    (λ p p'. one_position position file fault other db p p')
    (λ p t. absurd (position_names position file fault db.0 db.1.reads p (t.said db.0 db.1.reads).0))
    (λ t p. absurd (position_names position file other db.0 db.1.reads p (t.said db.0 db.1.reads).0))
    (λ t t'.
    let added = why.opens in
    let there = subst (λ (n : ℕ). IsInsertionRefusal file text n other) (one_place position file t'.place t.place db t'.said t.said) t'.refused in
    let reason = first_reason file text t.place fault why.told t.refused in
    let reason' = first_reason file text t.place other why'.told there in
    let first = reason.2 db.0 db.1.reads added.0 added.1.reads in
    let first' = reason'.2 db.0 db.1.reads added.0 added.1.reads in
    let same : rank reason.0 ≡ rank reason'.0 = omega (arith, λ (h : rank reason'.0 < rank reason.0). first.first reason'.0 h first'.holds, λ (h : rank reason.0 < rank reason'.0). first'.first reason.0 h first.holds) in
    fault_by_rank fault reason.0 reason.1 ∙ ap fault_of same ∙ sym (fault_by_rank other reason'.0 reason'.1))
    why.refused why'.refused

-- why a planned insertion is not made
abbrev Late : Position → Text → SessionState → SessionFault → Type 0
Late position text old fault = ((fault ≡ JournalFull) × LacksRoomFor position text old) ⊎ ((fault ≡ Refused edit_fault.TextTooLong) × MakesLongText position text old)

-- the text can't be opened
abbrev Unreadable : Text → SessionFault → Type 0
Unreadable text fault = (own : ReadFault) × (fault ≡ Unopened own) × (own.kind ≢ 10) × IsOpenFault text own.kind own.place

-- the insertion is refused before it is planned
abbrev Early : Position → Text → SessionState → SessionFault → Type 0
Early position text old fault = (own : EditFault) × (fault ≡ Refused own) × RefusesPlanned own position old.steps.present text

-- why an insertion is not made, one after another
abbrev Why : Position → Text → SessionState → SessionFault → Type 0
Why position text old fault = ((fault ≡ StepOpen) × (old.current ≢ NoStep)) ⊎ ((old.current ≡ NoStep) × (Unreadable text fault ⊎ (Early position text old fault ⊎ Late position text old fault)))

plan_why : (position : Position) (text : Text) (fault : SessionFault) (old : SessionState) → fault ≢ Memory → RefusesPlan fault position old.steps.present text
    → Unreadable text fault ⊎ (Early position text old fault ⊎ Late position text old fault)
plan_why position text (Unopened fault) old told why = inl (fault, refl, why.0, why.1)
plan_why position text (Refused fault) old told why = inr (inl (fault, refl, why))
plan_why position text Memory old told why = absurd (told refl)
plan_why position text JournalFull old told why = absurd why
plan_why position text NothingToUndo old told why = absurd why
plan_why position text NothingToRedo old told why = absurd why
plan_why position text (BadJournal place) old told why = absurd why
plan_why position text JournalMismatch old told why = absurd why
plan_why position text StepOpen old told why = absurd why
plan_why position text NoOpenStep old told why = absurd why

insertion_why : (position : Position) (text : Text) (fault : SessionFault) (old : SessionState) → fault ≢ Memory → RefusesInsertion position text old fault → Why position text old fault
insertion_why position text fault old told (RefusesInsertion.during during) = inl (refl, during)
insertion_why position text _ old told (RefusesInsertion.unplanned fault closed why) = inr (closed, plan_why position text fault old told why)
insertion_why position text fault old told (RefusesInsertion.full closed full) = inr (closed, inr (inr (inl (refl, full))))
insertion_why position text fault old told (RefusesInsertion.long closed long) = inr (closed, inr (inr (inr (refl, long))))

-- an insertion that can't be kept has no room
insertion_not_full : (position : Position) (text : Text) (pieces : List Piece) (old : SessionState) → LacksRoomFor position text old → PlansInsertion position old.steps.present text pieces
    → (LacksRoom NoStep pieces old.steps → ⊥) → ⊥
insertion_not_full position text pieces old full plan room =
    room (subst (λ (ps : List Piece). LacksRoom NoStep ps old.steps) (one_plan position old.steps.present text full.pieces pieces full.plan plan) full.full)

insertion_not_both : (position : Position) (text : Text) (fault : SessionFault) (old new : SessionState) → fault ≢ Memory → RefusesInsertion position text old fault → Inserts position text old new → ⊥
insertion_not_both position text fault old new told why does =
    let file : Text = old.steps.present in
    let db = does.plan.planned.file_opens in
    let added = does.plan.planned.text_opens in
    ⊎_elim (λ during. during.1 does.closed)
    (λ closed. ⊎_elim
    (λ unread. unread.2 (open_fault text unread.0.kind unread.0.place added unread.3))
    (λ others. ⊎_elim
    (λ early. planned_not_refused position file text does.pieces early.0 does.plan early.2)
    (λ late. ⊎_elim
    (λ full. insertion_not_full position text does.pieces old full.1 does.plan does.room)
    (λ long.
    let there = subst (λ (n : ℕ). IsInsertionRefusal file text n edit_fault.TextTooLong) (one_place position file long.1.plan.place does.plan.place db long.1.plan.said does.plan.said) long.1.long in
    does.allowed db.0 db.1.reads added.0 added.1.reads edits.TextTooLong (there db.0 db.1.reads added.0 added.1.reads).holds)
    late)
    others)
    closed.1)
    (insertion_why position text fault old told why)

-- the text of an insertion that is refused later can be opened
late_opens : (position : Position) (text : Text) (fault : SessionFault) (old : SessionState) → Early position text old fault ⊎ Late position text old fault → IsOpenable text
late_opens position text fault old why = ⊎_elim (λ early. early.2.opens) (λ late. ⊎_elim (λ full. full.1.plan.planned.text_opens) (λ long. long.1.plan.planned.text_opens) late) why

-- what was planned before it was refused
late_not_early : (position : Position) (text : Text) (fault other : SessionFault) (old : SessionState) → Late position text old fault → Early position text old other → ⊥
late_not_early position text fault other old late early = ⊎_elim
    (λ full. planned_not_refused position old.steps.present text full.1.pieces early.0 full.1.plan early.2)
    (λ long. planned_not_refused position old.steps.present text long.1.pieces early.0 long.1.plan early.2)
    late

one_late : (position : Position) (text : Text) (fault other : SessionFault) (old : SessionState) → Late position text old fault → Late position text old other → fault ≡ other
one_late position text fault other old why why' = one_of
    (λ full full'. full.0 ∙ sym full'.0)
    (λ full long. absurd (insertion_not_full position text long.1.pieces old full.1 long.1.plan long.1.room))
    (λ long full. absurd (insertion_not_full position text long.1.pieces old full.1 long.1.plan long.1.room))
    (λ long long'. long.0 ∙ sym long'.0)
    why why'

same_read_fault : (fault other : ReadFault) → SamePlace fault.kind fault.place other.kind other.place → fault ≡ other
same_read_fault fault other same = ap₂ (λ (k p : ℕ). record { kind = k; place = p }) same.0 same.1

one_closed : (position : Position) (text : Text) (fault other : SessionFault) (old : SessionState) → IsOpenable old.steps.present
    → Unreadable text fault ⊎ (Early position text old fault ⊎ Late position text old fault) → Unreadable text other ⊎ (Early position text old other ⊎ Late position text old other) → fault ≡ other
one_closed position text fault other old opens why why' = one_of
    (λ u u'. u.1 ∙ ap Unopened (same_read_fault u.0 u'.0 (one_open_fault text u.0.kind u.0.place u'.0.kind u'.0.place u.2 u'.2 u.3 u'.3)) ∙ sym u'.1)
    (λ u later. absurd (u.2 (open_fault text u.0.kind u.0.place (late_opens position text other old later) u.3)))
    (λ later u. absurd (u.2 (open_fault text u.0.kind u.0.place (late_opens position text fault old later) u.3)))
    (λ later later'. one_of
    (λ early early'. early.1 ∙ ap Refused (one_planned position old.steps.present text early.0 early'.0 opens early.2 early'.2) ∙ sym early'.1)
    (λ early late. absurd (late_not_early position text other fault old late early))
    (λ late early. absurd (late_not_early position text fault other old late early))
    (λ late late'. one_late position text fault other old late late')
    later later')
    why why'

insertion_one_refusal : (position : Position) (text : Text) (fault other : SessionFault) (old : SessionState) → IsOpenable old.steps.present → fault ≢ Memory → other ≢ Memory
    → RefusesInsertion position text old fault → RefusesInsertion position text old other → fault ≡ other
insertion_one_refusal position text fault other old opens told told' why why' = one_of
    (λ during during'. during.0 ∙ sym during'.0)
    (λ during closed. absurd (during.1 closed.0))
    (λ closed during. absurd (during.1 closed.0))
    (λ closed closed'. one_closed position text fault other old opens closed.1 closed'.1)
    (insertion_why position text fault old told why) (insertion_why position text other old told' why')

-- a request is not both refused and done
pub not_both : (request : Request) (fault : SessionFault) (old new : SessionState) → IsOpenable old.steps.present → fault ≢ Memory → Refuses fault request old → Does request old new → ⊥
not_both (request.Edit edit) fault old new opens told why does = edit_not_both edit fault old new opens told why does
not_both (request.Place position edit) fault old new opens told why does = at_not_both position edit fault old new opens told why does
not_both (request.Insert position text) fault old new opens told why does = insertion_not_both position text fault old new told why does
not_both (request.Begin label) fault old new opens told why does = (begin_why label fault old told why).1 does.closed
not_both request.End fault old new opens told why does = does.current why.none
not_both request.Undo fault old new opens told why does = ⊎_elim
    (λ w. w.1 does.closed)
    (λ w. omega (arith, ap length (sym does.carried.past ∙ w.2), length_push new.steps.past does.step))
    (undo_why fault old told why)
not_both request.Redo fault old new opens told why does = ⊎_elim
    (λ w. w.1 does.closed)
    (λ w. omega (arith, ap length (sym does.carried.future ∙ w.2)))
    (redo_why fault old told why)

-- a request is refused for one reason
pub one_refusal : (request : Request) (fault other : SessionFault) (old : SessionState) → IsOpenable old.steps.present → fault ≢ Memory → other ≢ Memory
    → Refuses fault request old → Refuses other request old → fault ≡ other
one_refusal (request.Edit edit) fault other old opens told told' why why' = edit_one_refusal edit fault other old opens told told' why why'
one_refusal (request.Place position edit) fault other old opens told told' why why' = at_one_refusal position edit fault other old opens told told' why why'
one_refusal (request.Insert position text) fault other old opens told told' why why' = insertion_one_refusal position text fault other old opens told told' why why'
one_refusal (request.Begin label) fault other old opens told told' why why' = (begin_why label fault old told why).0 ∙ sym (begin_why label other old told' why').0
one_refusal request.End fault other old opens told told' why why' = why.told ∙ sym why'.told
one_refusal request.Undo fault other old opens told told' why why' = one_of
    (λ w w'. w.0 ∙ sym w'.0) (λ w w'. absurd (w.1 w'.1)) (λ w w'. absurd (w'.1 w.1)) (λ w w'. w.0 ∙ sym w'.0)
    (undo_why fault old told why) (undo_why other old told' why')
one_refusal request.Redo fault other old opens told told' why why' = one_of
    (λ w w'. w.0 ∙ sym w'.0) (λ w w'. absurd (w.1 w'.1)) (λ w w'. absurd (w'.1 w.1)) (λ w w'. w.0 ∙ sym w'.0)
    (redo_why fault old told why) (redo_why other old told' why')

-- ---- requests one after another

abbrev Same : ℕ → ℕ → Option SessionFault → Option SessionFault → SessionState → SessionState → Type 0
Same done other fault fault' new new' = (done ≡ other) × (fault ≡ fault') × (new ≡ new')

told_of : (fault : SessionFault) (o : Option SessionFault) → o ≢ Some Memory → o ≡ Some fault → fault ≢ Memory
told_of fault o told e is = told (e ∙ ap Some is)

-- where the first is refused
refused_first : (request : Request) (requests : List Request) (fault : Option SessionFault) (state : SessionState) → StopsAt fault (request ∷ requests) state
    → (f : SessionFault) × (fault ≡ Some f) × Refuses f request state
refused_first request requests None state stops = absurd stops
refused_first request requests (Some fault) state stops = (fault, refl, stops)

none_left : (fault : Option SessionFault) (state : SessionState) → StopsAt fault [] state → fault ≡ None
none_left None state stops = refl
none_left (Some fault) state stops = absurd stops

one_course : (requests : List Request) (done other : ℕ) (fault fault' : Option SessionFault) (old new new' : SessionState) → IsGood old → fault ≢ Some Memory → fault' ≢ Some Memory
    → done ≤ length requests → other ≤ length requests → DoesAll (take done requests) old new → DoesAll (take other requests) old new'
    → StopsAt fault (drop done requests) new → StopsAt fault' (drop other requests) new' → Same done other fault fault' new new'
one_course [] zero zero fault fault' old new new' good told told' within within' did did' stops stops' =
    (refl, none_left fault new stops ∙ sym (none_left fault' new' stops'), did ∙ sym did')
one_course [] zero (suc other) fault fault' old new new' good told told' within within' did did' stops stops' = absurd (omega (arith, within'))
one_course [] (suc done) other fault fault' old new new' good told told' within within' did did' stops stops' = absurd (omega (arith, within))
one_course (request ∷ requests) zero zero fault fault' old new new' good told told' within within' did did' stops stops' =
    let f = refused_first request requests fault new stops in
    let g = refused_first request requests fault' new' stops' in
    let same : f.0 ≡ g.0 = one_refusal request f.0 g.0 old good.0.present (told_of f.0 fault told f.1) (told_of g.0 fault' told' g.1)
    (subst (λ (s : SessionState). Refuses f.0 request s) did f.2) (subst (λ (s : SessionState). Refuses g.0 request s) did' g.2) in
    (refl, f.1 ∙ ap Some same ∙ sym g.1, did ∙ sym did')
one_course (request ∷ requests) zero (suc other) fault fault' old new new' good told told' within within' did did' stops stops' =
    let f = refused_first request requests fault new stops in
    absurd (not_both request f.0 old did'.0 good.0.present (told_of f.0 fault told f.1) (subst (λ (s : SessionState). Refuses f.0 request s) did f.2) did'.1)
one_course (request ∷ requests) (suc done) zero fault fault' old new new' good told told' within within' did did' stops stops' =
    let g = refused_first request requests fault' new' stops' in
    absurd (not_both request g.0 old did.0 good.0.present (told_of g.0 fault' told' g.1) (subst (λ (s : SessionState). Refuses g.0 request s) did' g.2) did.1)
one_course (request ∷ requests) (suc done) (suc other) fault fault' old new new' good told told' within within' did did' stops stops' =
    let mid : did.0 ≡ did'.0 = one_does request old did.0 did'.0 good.0.present did.1 did'.1 in
    let rest = one_course requests done other fault fault' did.0 new new' (does_keeps_good request old did.0 good did.1) told told' (omega (arith, within)) (omega (arith, within'))
    did.2 (subst (λ (s : SessionState). DoesAll (take other requests) s new') (sym mid) did'.2) stops stops' in
    (ap suc rest.0, rest.1, rest.2)

pub one-result : one_result
one-result requests done other fault fault' old new new' good told told' performs performs' =
    one_course requests done other fault fault' old new new' good told told' performs.within performs'.within performs.did performs'.did performs.stops performs'.stops

-- ---- what is saved

pub one_saved : (kept : KeptSteps) (a b : Saved) → Saves kept a → Saves kept b → a ≡ b
one_saved kept a b x y =
    ap (λ (t : Text). record { file = t; journal = a.journal }) (x.file ∙ sym y.file)
    ∙ ap (λ (t : Text). record { file = b.file; journal = t }) (sym x.journal.whole ∙ y.journal.whole)
