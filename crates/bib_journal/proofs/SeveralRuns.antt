-- Several runs, and the one session that does what they do.
use Rattle.bib_journal.proofs.Words.{◌≡◌, ℕ, zero, suc, List, [], ◌∷◌, ◌++◌, length, Option, Some, None, refl, sym, ◌∙◌, ap, subst, arith, replicate, Text, applied, IsOpenable, History, Undoes, Step, KeptSteps, IsSound, BelongTo, history_of, first_of, bytes_of, going-back-undoes, going-on-redoes}
use Rattle.bib_journal.proofs.Words.{Contents, digest_of, one-contents, Edit, Request, made_base, AsksFor, asked_for, Saved, contents_of, Loads, Saves, last_of, SessionState, idle, IsOpenIn, MovesTo, Opens, MakesEdit, Does, DoesAll, OpenStep, NoStep, NewStep, LastStep, IsGood, OnDisk, ended}
use Rattle.bib_journal.proofs.Words.{course_of, IsOneSession}
use Rattle.std.proofs.lemmas.List.{nil_from_length}
use Rattle.history_spec.specs.History.{Times, LeadsAlone, IsAtFirst, files_of}
use Rattle.history_spec.specs.Steps.{files_before, files_after}
use Rattle.edit_spec.specs.Edits as edits
use Rattle.edit_spec.specs.Edits.{edited}
use Rattle.history_spec.proofs.HistoryLemmas.{undoing-all}
use Rattle.journal_format.proofs.JournalLaws.{texts-are-journals}
use Rattle.bib_data.specs.declared.request.Request.TheVariants as request
use Rattle.bib_journal.specs.Session.{started}
use Rattle.bib_journal.specs.Runs.{left, IsRun, requests_of, Course, Moves, MovesAll, one_opening, runs_are_one_session, sessions_are_one, undoing_all_leads_to_the_first_file, redoing_all_leads_to_the_last_file}
use Rattle.bib_data.specs.declared.position.Position.{Position}
use Rattle.bib_edit.specs.Positions.{edit_at}
use Rattle.bib_journal.specs.Session.{Inserts}
use Rattle.bib_journal.proofs.Moves.{planned_leads, insertion_leads, steps_move, made_open, none_open}

-- ---- one history

same_kept : (a b : KeptSteps) → a.present ≡ b.present → contents_of a ≡ contents_of b → a ≡ b
same_kept a b here said =
    ap (λ (x : List Step). record { past = x; present = a.present; future = a.future }) (ap (λ (c : Contents). c.past) said)
    ∙ ap (λ (x : Text). record { past = b.past; present = x; future = a.future }) here
    ∙ ap (λ (x : List Step). record { past = b.past; present = b.present; future = x }) (ap (λ (c : Contents). c.future) said)

pub one-opening : one_opening
one-opening file None a b v w = v.1 ∙ sym w.1
one-opening file (Some journal) a b v w = same_kept a b (v.present ∙ sym w.present) (one-contents journal (contents_of a) (contents_of b) v.journal w.journal)

-- ---- soundness

started_is_sound : (file : Text) → IsOpenable file → IsSound (started file)
started_is_sound file opens = record {
  present = opens;
  belong = record { back = tt; on = tt };
  steps = record { past_steps = tt; future_steps = tt; few = omega arith; short = omega arith };
}

pub opened_is_sound : (file : Text) (journal : Option Text) (kept : KeptSteps) → Opens file journal kept → IsSound kept
opened_is_sound file None kept opens = subst IsSound (sym opens.1) (started_is_sound file opens.0)
opened_is_sound file (Some journal) kept loads = record {
  present = subst IsOpenable (sym loads.present) loads.fit.opens;
  belong = subst (λ (b : Text). BelongTo kept.past kept.future b) (sym loads.present) loads.fit.belong;
  steps = loads.journal.says.good.steps;
}

edit_is_good : (edit : Edit) (old new : SessionState) → IsGood old → MakesEdit edit old new → IsGood new
edit_is_good edit old new w makes = (
  (steps_move old.current makes.pieces old.steps new.steps w.0 w.1 (planned_leads old.steps.present edit makes.pieces w.0.present makes.allowed makes.planned) makes.room makes.step).0,
  subst (IsOpenIn new.steps) (sym makes.current) (made_open old.current makes.pieces old.steps new.steps w.1 makes.step),
)

insertion_is_good : (position : Position) (text : Text) (old new : SessionState) → IsGood old → Inserts position text old new → IsGood new
insertion_is_good position text old new w inserts = (
  (steps_move NoStep inserts.pieces old.steps new.steps w.0 tt (insertion_leads position old.steps.present text inserts.pieces inserts.plan inserts.allowed) inserts.room inserts.step).0,
  none_open new.steps new.current inserts.still,
)

-- a request leaves what is kept good
pub does_keeps_good : (request : Request) (old new : SessionState) → IsGood old → Does request old new → IsGood new
does_keeps_good (request.Edit edit) old new w does = edit_is_good edit old new w does
does_keeps_good (request.Place position edit) old new w does = edit_is_good (edit_at does.place edit) old new w does.made
does_keeps_good (request.Insert position text) old new w does = insertion_is_good position text old new w does
does_keeps_good (request.Begin label) old new w does = (subst IsSound (sym does.steps) w.0, subst (IsOpenIn new.steps) (sym does.current) does.label)
does_keeps_good request.End old new w does = (subst IsSound (sym does.steps) w.0, none_open new.steps new.current does.closed)
does_keeps_good request.Undo old new w does = ((going-back-undoes does.step old.steps new.steps w.0 does.carried).0, none_open new.steps new.current does.still)
does_keeps_good request.Redo old new w does = ((going-on-redoes does.step old.steps new.steps w.0 does.carried).0, none_open new.steps new.current does.still)

pub all_keep_sound : (requests : List Request) (old new : SessionState) → IsGood old → DoesAll requests old new → IsGood new
all_keep_sound [] old new w did = subst IsGood (sym did) w
all_keep_sound (request ∷ requests) old new w did = all_keep_sound requests did.0 new (does_keeps_good request old did.0 w did.1) did.2

-- ---- whole files

same_course : (old new : SessionState) (current : OpenStep) → new.steps ≡ old.steps → new.current ≡ current → course_of new ≡ record { history = history_of old.steps; current = current }
same_course old new current steps is =
    ap (λ (k : KeptSteps). record { history = history_of k; current = new.current }) steps ∙ ap (λ (o : OpenStep). record { history = history_of old.steps; current = o }) is

does_moves : (request : Request) (old new : SessionState) → Does request old new → Moves request (course_of old) (course_of new)
does_moves (request.Edit edit) old new does = (does.file, does.current)
does_moves (request.Place position edit) old new does = ((does.place, does.said, does.made.file), does.made.current)
does_moves (request.Insert position text) old new does = (does.closed, does.still, (does.plan.place, does.plan.said, does.file))
does_moves (request.Begin label) old new does = (does.closed, same_course old new (NewStep label) does.steps does.current)
does_moves request.End old new does = (does.current, same_course old new NoStep does.steps does.closed)
does_moves request.Undo old new does = (does.closed, does.still, does.file)
does_moves request.Redo old new does = (does.closed, does.still, does.file)

pub all_move : (requests : List Request) (old new : SessionState) → DoesAll requests old new → MovesAll requests (course_of old) (course_of new)
all_move [] old new did = ap course_of did
all_move (request ∷ requests) old new did = (course_of did.0, does_moves request old did.0 did.1, all_move requests did.0 new did.2)

-- the first of all files
abbrev pub first_in : List Text → Text → Text
first_in [] file = file
first_in (first ∷ files) file = first

abbrev pub first_file : History → Text
first_file h = first_in h.past h.present

first_pushed : (files : List Text) (file other : Text) → first_in (files ++ file ∷ []) other ≡ first_in files file
first_pushed [] file other = refl
first_pushed (first ∷ files) file other = refl

first_after : (old new : History) → new.past ≡ old.past ++ old.present ∷ [] → first_file new ≡ first_file old
first_after old new pushed = ap (λ (fs : List Text). first_in fs new.present) pushed ∙ first_pushed old.past old.present new.present

-- where there is a past, the present does not count
first_kept : (files : List Text) (file other : Text) → (files ≡ [] → ⊥) → first_in files other ≡ first_in files file
first_kept [] file other some = absurd (some refl)
first_kept (first ∷ files) file other some = refl

some_before : (steps : List Step) (file : Text) → (steps ≡ [] → ⊥) → files_before steps file ≡ [] → ⊥
some_before [] file some none = some refl
some_before (step ∷ steps) file some none = omega (arith, ap length none)

edit_keeps_first : (current : OpenStep) (file : Text) (old new : KeptSteps) → IsOpenIn old current → MovesTo current file (history_of old) (history_of new)
    → first_file (history_of new) ≡ first_file (history_of old)
edit_keeps_first NoStep file old new o moves = first_after (history_of old) (history_of new) moves.past
edit_keeps_first (NewStep label) file old new o moves = first_after (history_of old) (history_of new) moves.past
edit_keeps_first LastStep file old new o moves =
    ap (λ (fs : List Text). first_in fs new.present) moves.past
    ∙ first_kept (files_before old.past old.present) old.present new.present (some_before old.past old.present o.0)

edit_made_keeps_first : (edit : Edit) (old new : SessionState) → IsGood old → MakesEdit edit old new → first_file (history_of new.steps) ≡ first_file (history_of old.steps)
edit_made_keeps_first edit old new w makes =
    let one : (e : edits.Edit) × AsksFor edit e = asked_for edit in
    edit_keeps_first old.current (bytes_of (edited made_base w.0.present.0 one.0)) old.steps new.steps w.1 (makes.file w.0.present.0 w.0.present.1.reads one.0 one.1)

does_keeps_first : (request : Request) (old new : SessionState) → IsGood old → Does request old new → first_file (history_of new.steps) ≡ first_file (history_of old.steps)
does_keeps_first (request.Edit edit) old new w does = edit_made_keeps_first edit old new w does
does_keeps_first (request.Place position edit) old new w does = edit_made_keeps_first (edit_at does.place edit) old new w does.made
does_keeps_first (request.Insert position text) old new w does =
    let added = does.plan.planned.text_opens in
    first_after (history_of old.steps) (history_of new.steps) (does.file w.0.present.0 w.0.present.1.reads added.0 added.1.reads).past
does_keeps_first (request.Begin label) old new w does = ap (λ (k : KeptSteps). first_file (history_of k)) does.steps
does_keeps_first request.End old new w does = ap (λ (k : KeptSteps). first_file (history_of k)) does.steps
does_keeps_first request.Undo old new w does = sym (first_after (history_of new.steps) (history_of old.steps) does.file.past)
does_keeps_first request.Redo old new w does = first_after (history_of old.steps) (history_of new.steps) does.file.past

all_keep_first : (requests : List Request) (old new : SessionState) → IsGood old → DoesAll requests old new → first_file (history_of new.steps) ≡ first_file (history_of old.steps)
all_keep_first [] old new w did = ap (λ (k : SessionState). first_file (history_of k.steps)) did
all_keep_first (request ∷ requests) old new w did =
    all_keep_first requests did.0 new (does_keeps_good request old did.0 w did.1) did.2 ∙ does_keeps_first request old did.0 w did.1

-- ---- runs

pub does_both : (requests others : List Request) (old mid new : SessionState) → DoesAll requests old mid → DoesAll others mid new → DoesAll (requests ++ others) old new
does_both [] others old mid new did next = subst (λ (k : SessionState). DoesAll others k new) did next
does_both (request ∷ requests) others old mid new did next = (did.0, did.1, does_both requests others did.0 mid new did.2 next)

pub saved_loads : (kept : KeptSteps) (saved : Saved) → IsSound kept → Saves kept saved → Loads saved.file saved.journal kept
saved_loads kept saved w saves = record {
  present = sym saves.file;
  journal = texts-are-journals saved.journal (contents_of kept) saves.journal;
  fit = record {
    opens = subst IsOpenable (sym saves.file) w.present;
    digest = ap digest_of (sym saves.file);
    belong = subst (λ (b : Text). BelongTo kept.past kept.future b) (sym saves.file) w.belong;
  };
}

pub left_opens : (kept : KeptSteps) (saved : Saved) (disk : OnDisk) → IsSound kept → Saves kept saved → disk ≡ left saved → Opens disk.file disk.journal kept
left_opens kept saved disk w saves leaves = subst (λ (p : OnDisk). Opens p.file p.journal kept) (sym leaves) (saved_loads kept saved w saves)

pub sessions-are-one : sessions_are_one
sessions-are-one requests others kept again mid new first opens second =
    let same : again ≡ first.closed = one-opening mid.file mid.journal again first.closed opens first.opens in
    let next : DoesAll others (idle first.closed) (idle second.closed) = subst (λ (k : KeptSteps). DoesAll others (idle k) (idle second.closed)) same second.did in
    let all : DoesAll (requests ++ others) (idle kept) (idle second.closed) = does_both requests others (idle kept) (idle first.closed) (idle second.closed) first.did next in
    record { closed = second.closed; did = all; opens = second.opens; moved = all_move (requests ++ others) (idle kept) (idle second.closed) all }

pub runs-are-one : runs_are_one_session
runs-are-one [] kept old new opens runs = record {
  closed = kept;
  did = refl;
  opens = subst (λ (p : OnDisk). Opens p.file p.journal kept) (sym runs) opens;
  moved = refl;
}
runs-are-one (requests ∷ others) kept old new opens runs =
    let run : IsRun requests old runs.0 = runs.1 in
    let same : kept ≡ run.opened = one-opening old.file old.journal kept run.opened opens run.opens in
    let did : DoesAll (ended requests) (idle kept) (idle run.closed) = subst (λ (k : KeptSteps). DoesAll (ended requests) (idle k) (idle run.closed)) (sym same) run.did in
    let sound : IsSound run.closed = (all_keep_sound (ended requests) (idle kept) (idle run.closed) (opened_is_sound old.file old.journal kept opens, tt) did).0 in
    let there : Opens runs.0.file runs.0.journal run.closed = left_opens run.closed run.saved runs.0 sound run.saves run.leaves in
    let rest : IsOneSession (requests_of others) run.closed new = runs-are-one others run.closed runs.0 new there runs.2 in
    let first : IsOneSession (ended requests) kept runs.0 = record { closed = run.closed; did = did; opens = there; moved = all_move (ended requests) (idle kept) (idle run.closed) did } in
    sessions-are-one (ended requests) (requests_of others) kept run.closed runs.0 new first there rest

-- ---- the first file

length-files_before : (steps : List Step) (file : Text) → length (files_before steps file) ≡ length steps
length-files_before [] file = refl
length-files_before (step ∷ steps) file = ap suc (length-files_before steps file)

undos_are_times : (n : ℕ) (old new : Course) → MovesAll (replicate n request.Undo) old new → Times n Undoes old.history new.history
undos_are_times zero old new moved = ap (λ (c : Course). c.history) moved
undos_are_times (suc n) old new moved = (moved.0.history, moved.1.2, undos_are_times n moved.0 new moved.2)

first_is : (past rest : List Text) (file first : Text) (others : List Text) → first ∷ others ≡ past ++ file ∷ rest → first ≡ first_in past file
first_is [] rest file first others same = cc (same)
first_is (p ∷ past) rest file first others same = cc (same)

-- as many undos as there is past lead to the first file
pub undone_to_first : (kept closed : KeptSteps) → MovesAll (replicate (length kept.past) request.Undo) (course_of (idle kept)) (course_of (idle closed))
    → closed.present ≡ first_file (history_of kept)
undone_to_first kept closed moved =
    let all : (h : History) × LeadsAlone (Times (length (history_of kept).past) Undoes) (history_of kept) h × IsAtFirst (files_of (history_of kept)) h = undoing-all (history_of kept) in
    let times : Times (length kept.past) Undoes (history_of kept) (history_of closed) = undos_are_times (length kept.past) (course_of (idle kept)) (course_of (idle closed)) moved in
    let as_many : Times (length (history_of kept).past) Undoes (history_of kept) (history_of closed) =
    subst (λ (n : ℕ). Times n Undoes (history_of kept) (history_of closed)) (sym (length-files_before kept.past kept.present)) times in
    let there : history_of closed ≡ all.0 = all.1.alone (history_of closed) as_many in
    ap (λ (h : History). h.present) there
    ∙ first_is (history_of kept).past (history_of kept).future kept.present all.0.present all.0.future all.2.all

pub opened_present : (file : Text) (journal : Option Text) (kept : KeptSteps) → Opens file journal kept → kept.present ≡ file
opened_present file None kept opens = ap (λ (k : KeptSteps). k.present) opens.1
opened_present file (Some journal) kept opens = opens.present

first_before : (steps : List Step) (file : Text) → first_in (files_before steps file) file ≡ first_of steps file
first_before [] file = refl
first_before (step ∷ steps) file = refl

-- a session keeps the first file of the history that it opened
pub session_keeps_first : (requests : List Request) (file : Text) (journal : Option Text) (first : KeptSteps) (new : OnDisk) → Opens file journal first → (one : IsOneSession requests first new)
    → first_file (history_of one.closed) ≡ first_of first.past first.present
session_keeps_first requests file journal first new opens one =
    all_keep_first requests (idle first) (idle one.closed) (opened_is_sound file journal first opens, tt) one.did ∙ first_before first.past first.present

pub undoing-all-leads-to-first : undoing_all_leads_to_the_first_file
undoing-all-leads-to-first runs back old mid new first kept begins there opens again undos =
    let one : IsOneSession (requests_of runs) first mid = runs-are-one runs first old mid begins there in
    let same : one.closed ≡ kept = one-opening mid.file mid.journal one.closed kept one.opens opens in
    let two : IsOneSession (requests_of back) kept new = runs-are-one back kept mid new opens again in
    let moved : MovesAll (replicate (length kept.past) request.Undo) (course_of (idle kept)) (course_of (idle two.closed)) =
    subst (λ (rs : List Request). MovesAll rs (course_of (idle kept)) (course_of (idle two.closed))) undos two.moved in
    sym (opened_present new.file new.journal two.closed two.opens) ∙ undone_to_first kept two.closed moved
    ∙ ap (λ (k : KeptSteps). first_file (history_of k)) (sym same) ∙ session_keeps_first (requests_of runs) old.file old.journal first mid begins one

-- ---- the last file

-- the last of a file and those after it
abbrev pub last_in : Text → List Text → Text
last_in file [] = file
last_in file (next ∷ files) = last_in next files

pub last_after : (steps : List Step) (file : Text) → last_in file (files_after steps file) ≡ last_of steps file
last_after [] file = refl
last_after (step ∷ steps) file = last_after steps (applied step.pieces file)

pub length-files_after : (steps : List Step) (file : Text) → length (files_after steps file) ≡ length steps
length-files_after [] file = refl
length-files_after (step ∷ steps) file = ap suc (length-files_after steps (applied step.pieces file))

-- as many redos as there is future lead to the last file
pub redone_to_last : (n : ℕ) (old new : Course) → length old.history.future ≡ n → MovesAll (replicate n request.Redo) old new
    → new.history.present ≡ last_in old.history.present old.history.future
redone_to_last zero old new count moved =
    ap (λ (c : Course). c.history.present) moved ∙ ap (λ (fs : List Text). last_in old.history.present fs) (sym (nil_from_length old.history.future count))
redone_to_last (suc n) old new count moved =
    redone_to_last n moved.0 new (omega (arith, count, ap length moved.1.2.future)) moved.2
    ∙ ap (λ (fs : List Text). last_in old.history.present fs) (sym moved.1.2.future)

pub redoing-all-leads-to-last : redoing_all_leads_to_the_last_file
redoing-all-leads-to-last on mid new kept opens again redos =
    let one : IsOneSession (requests_of on) kept new = runs-are-one on kept mid new opens again in
    let moved : MovesAll (replicate (length kept.future) request.Redo) (course_of (idle kept)) (course_of (idle one.closed)) =
    subst (λ (rs : List Request). MovesAll rs (course_of (idle kept)) (course_of (idle one.closed))) redos one.moved in
    sym (opened_present new.file new.journal one.closed one.opens)
    ∙ redone_to_last (length kept.future) (course_of (idle kept)) (course_of (idle one.closed)) (length-files_after kept.future kept.present) moved
    ∙ last_after kept.future kept.present
