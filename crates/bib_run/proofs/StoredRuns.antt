-- Runs of the program, as sessions that do what the commands ask for.
use Rattle.bib_run.proofs.Words.{◌≡◌, ◌≢◌, ℕ, Bool, true, false, ◌==◌, List, [], ◌++◌, length, take, replicate, bytes_eq, codes, Option, Some, None, option_map, inl, inr, refl, sym, ◌∙◌, ap, subst, arith, list_all, false≢true, none-some, same_Some, Text, IsOpenable, ReadFault, IsOpenFault}
use Rattle.bib_run.proofs.Words.{KeptSteps, AddMany, Request, SessionFault, Unopened, BadJournal, JournalMismatch, Saved, Saves, SessionState, idle, Opens, IsOpened, RefusesOpen, Performs, HasTurned, one-opening, opened_is_sound, open_fault, Additions, Said, said_of, asked_by_words, Command, Answer}
use Rattle.bib_run.proofs.Words.{IsUnopened, IsUnfit, OpensWith, judged_journal, bad_journal_line, mismatch_line, fault_line, outcome_after, AnswersSession, AnswersInput, HasEdited, HasEditedBy, HasEditedByWords, IsEditAnswer, IsWordsAnswer, changes_of, stop_line, fault_message, HasAdded}
use Rattle.bib_run.proofs.Words.{HasImported, IsImportAnswer, IsTurnAnswer, IsLogAnswer, key_words, shown}
use Rattle.bib_run.specs.ImportAnswer.{import_told}
use Rattle.std.proofs.Common.{option_and_then, suc, not, ◌&&◌, if◌then◌else◌, IsSomeAnd, ◌∷◌, unwrap_or, ◌⊎◌, ⊎_elim, eqb-true}
use Rattle.std.specs.Option.{option_map_or}
use Rattle.std.proofs.lemmas.Bool.{cases_Bool, cond-true, cond-false, and_parts}
use Rattle.std.proofs.lemmas.List.Folds.{list_all-append}
use Rattle.std.proofs.lemmas.List.Sums.{sum_by-cons}
use Rattle.bib_spec.specs.Texts.{is_empty}
use Rattle.bib_spec.proofs.Names.{eq-true}
use Rattle.history_spec.specs.Steps.{IsSound, label_of, history_of}
use Rattle.bib_data.specs.declared.request.Request.TheVariants as request
use Rattle.bib_journal.specs.declared.fault.SessionFault.TheVariants.{Memory}
use Rattle.bib_journal.specs.declared.open_step.OpenStep.{OpenStep}
use Rattle.bib_journal.specs.Session.{DoesAll}
use Rattle.bib_journal.specs.Runs.{OnDisk, left, leaves_open, ended, requests_of, IsOneSession}
use Rattle.bib_journal.specs.Renaming.{OfReadings, KeepsTexts, is_renaming}
use Rattle.bib_journal.proofs.SeveralRuns.{opened_present, all_keep_sound, left_opens, sessions-are-one, first_file, session_keeps_first}
use Rattle.bib_journal.proofs.EndedSessions.{ended_session, undone_all, redone_all}
use Rattle.bib_journal.proofs.KeptRecords.{all-keep, some-pass}
use Rattle.bib_journal.proofs.SavedLoads.{open_refused}
use Rattle.bib_script.specs.Parting.{words_of, lines_of}
use Rattle.bib_script.specs.Script.{said_by, said_first, nothing_said, request_of, position_of, fields_of, new_entry, adding, add_of, moving, move_of, edit_of, edit_asked, group_of, end_of}
use Rattle.bib_data.specs.declared.edit.NewEntry.{NewEntry}
use Rattle.bib_data.specs.declared.position.Position.{Position}
use Rattle.bib_data.specs.declared.position.Position.TheVariants as position
use Rattle.bib_run.specs.InsertAnswer.{position_asked, HasPutIn, HasPutNews, HasInserted, IsInsertAnswer}
use Rattle.bib_script.specs.Words.{step_of, label_of_words}
use Rattle.bib_words.specs.declared.verbs.Verb.{Verb}
use Rattle.bib_words.specs.declared.verbs.Verb.TheVariants as verbs
use Rattle.bib_words.specs.Verbs.{verb_of, reads_journal}
use Rattle.bib_run.specs.EditAnswer.{edits_in, taken_back, whole}
use Rattle.bib_run.specs.Shown.{kept_with}
use Rattle.bib_run.specs.Answers.{Answers, IsEditsAnswer, IsWholeAnswer}
use Rattle.bib_run.specs.StoredRuns.{edits_asked, stored, OpensSession, AsksEdits, AsksAdditions, AsksInsertion, Requests, Asks, IsSession, a_run_is_a_session, Call, AreAccepted, runs_of_the_program_are_one_session, one_undo_leads_to_the_first_file, one_redo_leads_to_the_last_file, renames, runs_of_renamings_keep_every_record, IsStoredRun, a_refused_script_leaves_the_disk}

-- ---- scripts

-- the request is an edit, or begins or ends a step
abbrev is_scripted : Request → Bool
is_scripted (request.Edit edit) = true
is_scripted (request.Place position edit) = true
is_scripted (request.Insert position text) = false
is_scripted (request.Begin label) = true
is_scripted request.End = true
is_scripted request.Undo = false
is_scripted request.Redo = false

-- the request, if there is one, is an edit, or begins or ends a step
abbrev IsScripted : Option Request → Type 0
IsScripted asked = (r : Request) → asked ≡ Some r → is_scripted r ≡ true

none_scripted : IsScripted None
none_scripted r e = absurd (none-some r e)

map_scripted : {X : Type 0} (f : X → Request) → ((x : X) → is_scripted (f x) ≡ true) → (o : Option X) → IsScripted (option_map f o)
map_scripted f is None r e = absurd (none-some r e)
map_scripted f is (Some x) r e = ap is_scripted (sym (same_Some (f x) r e)) ∙ is x

choice_scripted : (b : Bool) (one other : Option Request) → IsScripted one → IsScripted other → IsScripted (if b then one else other)
choice_scripted true one other is is' = is
choice_scripted false one other is is' = is'

group_scripted : (words : List Text) → IsScripted (group_of words)
group_scripted [] = none_scripted
group_scripted (label ∷ []) = map_scripted request.Begin (λ x. refl) (label_of label)
group_scripted (label ∷ word ∷ words) = none_scripted

end_scripted : (words : List Text) → IsScripted (end_of words)
end_scripted [] = λ r e. ap is_scripted (sym (same_Some request.End r e))
end_scripted (word ∷ words) = none_scripted

joined_scripted : {X : Type 0} (f : X → Option Request) → ((x : X) → IsScripted (f x)) → (o : Option X) → IsScripted (option_and_then f o)
joined_scripted f is None r e = absurd (none-some r e)
joined_scripted f is (Some x) r e = is x r e

adding_scripted : (at : Position) (entry : NewEntry) → is_scripted (adding at entry) ≡ true
adding_scripted (position.Number n) entry = refl
adding_scripted position.End entry = refl
adding_scripted (position.Before key) entry = refl
adding_scripted (position.After key) entry = refl

add_scripted : (words : List Text) → IsScripted (add_of words)
add_scripted [] = none_scripted
add_scripted (a ∷ []) = none_scripted
add_scripted (a ∷ b ∷ []) = none_scripted
add_scripted (a ∷ b ∷ c ∷ words) =
    joined_scripted (λ at. option_map (λ fields. adding at (new_entry b c fields)) (fields_of words))
    (λ at. map_scripted (λ fields. adding at (new_entry b c fields)) (λ fields. adding_scripted at (new_entry b c fields)) (fields_of words)) (position_of a)

moving_scripted : (key : Text) (at : Position) → is_scripted (moving key at) ≡ true
moving_scripted key (position.Number n) = refl
moving_scripted key position.End = refl
moving_scripted key (position.Before other) = refl
moving_scripted key (position.After other) = refl

move_scripted : (words : List Text) → IsScripted (move_of words)
move_scripted [] = none_scripted
move_scripted (a ∷ []) = none_scripted
move_scripted (a ∷ b ∷ []) = map_scripted (λ at. moving a at) (moving_scripted a) (position_of b)
move_scripted (a ∷ b ∷ c ∷ words) = none_scripted

edit_scripted : (words : List Text) → IsScripted (edit_asked words)
edit_scripted [] = none_scripted
edit_scripted (verb ∷ words) =
    choice_scripted (bytes_eq verb (codes "add")) (add_of words) (if bytes_eq verb (codes "move") then move_of words else option_map request.Edit (edit_of verb words))
    (add_scripted words)
    (choice_scripted (bytes_eq verb (codes "move")) (move_of words) (option_map request.Edit (edit_of verb words))
    (move_scripted words) (map_scripted request.Edit (λ x. refl) (edit_of verb words)))

asked_scripted : (words : List Text) → IsScripted (request_of words)
asked_scripted [] = none_scripted
asked_scripted (verb ∷ words) =
    choice_scripted (bytes_eq verb (codes "group")) (group_of words)
    (if bytes_eq verb (codes "end") then end_of words else edit_asked (verb ∷ words))
    (group_scripted words)
    (choice_scripted (bytes_eq verb (codes "end")) (end_of words) (edit_asked (verb ∷ words)) (end_scripted words) (edit_scripted (verb ∷ words)))

abbrev said_on : ℕ → Bool → Option Request → Said → Said
said_on n b asked rest = if b then rest else option_map_or (λ a. said_first n a rest) asked (nothing_said (Some n))

line_scripted : (n : ℕ) (b : Bool) (asked : Option Request) (rest : Said) → IsScripted asked → list_all is_scripted rest.requests ≡ true
    → list_all is_scripted (said_on n b asked rest).requests ≡ true
line_scripted n true asked rest is all = all
line_scripted n false None rest is all = refl
line_scripted n false (Some r) rest is all = ap (λ b. b && list_all is_scripted rest.requests) (is r refl) ∙ all

lines_scripted : (n : ℕ) (lines : List Text) → list_all is_scripted (said_by n lines).requests ≡ true
lines_scripted n [] = refl
lines_scripted n (line ∷ lines) =
    line_scripted n (is_empty line) (request_of (words_of line)) (said_by (suc n) lines) (asked_scripted (words_of line)) (lines_scripted (suc n) lines)

-- the step that words say
words_scripted : (words : List Text) (requests : List Request) → asked_by_words words ≡ Some requests → list_all is_scripted requests ≡ true
words_scripted words requests is = of_step (edit_asked words) (edit_scripted words) is
  where
    of_step : (edit : Option Request) → IsScripted edit → option_map (step_of (label_of_words words)) edit ≡ Some requests → list_all is_scripted requests ≡ true
    of_step None scripted none = absurd (none-some requests none)
    of_step (Some edit) scripted some =
        ap (list_all is_scripted) (sym (same_Some (step_of (label_of_words words) edit) requests some)) ∙ ap (λ b. b && true) (scripted edit refl)

-- where no edit is among such requests, nothing is changed
no_edit_changes : (requests : List Request) (old new : SessionState) → list_all is_scripted requests ≡ true → edits_in requests ≡ 0 → DoesAll requests old new → new.steps ≡ old.steps
no_edit_changes [] old new all none did = ap (λ (s : SessionState). s.steps) did
no_edit_changes (request.Edit edit ∷ requests) old new all none did = absurd (omega (arith, none, sum_by-cons changes_of (request.Edit edit) requests))
no_edit_changes (request.Place position edit ∷ requests) old new all none did = absurd (omega (arith, none, sum_by-cons changes_of (request.Place position edit) requests))
no_edit_changes (request.Insert position text ∷ requests) old new all none did = absurd (false≢true all)
no_edit_changes (request.Begin label ∷ requests) old new all none did =
    no_edit_changes requests did.0 new (and_parts true (list_all is_scripted requests) all).1 (omega (arith, none, sum_by-cons changes_of (request.Begin label) requests)) did.2 ∙ did.1.steps
no_edit_changes (request.End ∷ requests) old new all none did =
    no_edit_changes requests did.0 new (and_parts true (list_all is_scripted requests) all).1 (omega (arith, none, sum_by-cons changes_of request.End requests)) did.2 ∙ did.1.steps
no_edit_changes (request.Undo ∷ requests) old new all none did = absurd (false≢true all)
no_edit_changes (request.Redo ∷ requests) old new all none did = absurd (false≢true all)

-- ---- what is stored

abbrev text_by : Bool → Text → Option Text
text_by b text = if b then None else Some text

abbrev stored_by : OnDisk → Saved → Text → Bool → OnDisk
stored_by old saved message b = stored old (record { file = text_by b saved.file; journal = text_by b saved.journal; message = message; status = 1 })

-- the outcome of a session is stored, or leaves what was there where the session changed nothing
stored_left : (changes : ℕ) (message : Option Text) (saved : Saved) (old : OnDisk) →
    (stored old (outcome_after changes message saved) ≡ left saved) ⊎ ((changes ≡ 0) × (stored old (outcome_after changes message saved) ≡ old))
stored_left changes None saved old = inl refl
stored_left changes (Some message) saved old =
    ⊎_elim
    (λ (h : (changes == 0) ≡ true). inr (eqb-true changes 0 h, ap (stored_by old saved message) h))
    (λ (h : (changes == 0) ≡ false). inl (ap (stored_by old saved message) h))
    (cases_Bool (changes == 0))

-- ---- opening

refused_file : (fault : ReadFault) (file : Text) (journal : Option Text) → fault.kind ≢ 10 → IsOpenFault file fault.kind fault.place → RefusesOpen (Unopened fault) file journal
refused_file fault file None told is = (told, is)
refused_file fault file (Some text) told is = (told, is)

-- nothing says why a session is not opened that opens
pub not_unopened : (file : Text) (journal : Option Text) (kept : KeptSteps) (message : Text) → Opens file journal kept → IsUnopened file journal message → ⊥
not_unopened file journal kept message opens (IsUnopened.file _ kind place told fault) =
    let it : ReadFault = record { kind = kind; place = place } in
    let same = open_refused file journal kept opens (Unopened it) (refused_file it file journal told fault) in
    cc
not_unopened file journal kept message opens (IsUnopened.journal text place is none) =
    let same = open_refused file (Some text) kept opens (BadJournal place) (is, none) in
    cc
not_unopened file journal kept message opens (IsUnopened.mismatch text is) =
    let same = open_refused file (Some text) kept opens JournalMismatch is in
    cc

-- a file that is opened can be opened
pub opened_openable : (file : Text) (journal : Option Text) (kept : KeptSteps) → Opens file journal kept → IsOpenable file
opened_openable file journal kept opens = subst IsOpenable (opened_present file journal kept opens) (opened_is_sound file journal kept opens).present

-- a journal with which a file opens is not unfit
pub not_unfit : (file text : Text) (kept : KeptSteps) → Opens file (Some text) kept → IsUnfit file text → ⊥
not_unfit file text kept opens (IsUnfit.none place is) =
    not_unopened file (Some text) kept (bad_journal_line place) opens (IsUnopened.journal text place (opened_openable file (Some text) kept opens) is)
not_unfit file text kept opens (IsUnfit.mismatch is) = not_unopened file (Some text) kept mismatch_line opens (IsUnopened.mismatch text is)

-- a file that is opened, with its journal or with a new one, can be opened
openable_with : (new_journal : Bool) (file : Text) (journal : Option Text) (opened : SessionState) → OpensWith new_journal file journal opened → IsOpenable file
openable_with new_journal file journal opened (OpensWith.fitting is) = opened_openable file journal opened.steps is.opens
openable_with new_journal file journal opened (OpensWith.begun text asked is_text unfit is) = opened_openable file None opened.steps is.opens

-- nothing says why a session is not opened that is opened so
pub not_refused_with : (new_journal : Bool) (file : Text) (journal : Option Text) (opened : SessionState) (message : Text) → OpensWith new_journal file journal opened
    → IsUnopened file (judged_journal new_journal journal) message → ⊥
not_refused_with false file journal opened message (OpensWith.fitting is) why = not_unopened file journal opened.steps message is.opens why
not_refused_with false file journal opened message (OpensWith.begun text asked is_text unfit is) why = false≢true asked
not_refused_with true file journal opened message opens (IsUnopened.file _ kind place told fault) =
    told (open_fault file kind place (openable_with true file journal opened opens) fault)

-- ---- one run

-- the run is a session of these requests, if the steps that the session keeps open from the new disk
as_session : (command : Command) (input : Text) (kept : KeptSteps) (new : OnDisk) (requests : List Request) (done : ℕ) (fault : Option SessionFault) (reached : SessionState)
    → Asks command kept.present input requests → fault ≢ Some Memory → Performs requests done fault (idle kept) reached → Opens new.file new.journal reached.steps
    → IsSession command input kept new
as_session command input kept new requests done fault reached asks told performs opens =
    let one = ended_session (take done requests) kept reached new performs.did opens in (
      take done requests,
      one.0,
      record { requests = requests; asks = asks; done = done; fault = fault; told = told; reached = reached; performs = performs; first = refl; kept = one.1 },
    )

nothing_done : (kept : KeptSteps) → Performs [] 0 None (idle kept) (idle kept)
nothing_done kept = record { within = omega arith; did = refl; stops = tt }

nothing_told : None ≢ Some Memory
nothing_told e = none-some Memory e

same_disk : (kept : KeptSteps) (old new : OnDisk) → new ≡ old → Opens old.file old.journal kept → Opens new.file new.journal kept
same_disk kept old new is opens = subst (λ (p : OnDisk). Opens p.file p.journal kept) (sym is) opens

-- there is no request, and nothing is stored
asks_nothing : (command : Command) (input : Text) (kept : KeptSteps) (old new : OnDisk) → Asks command kept.present input [] → Opens old.file old.journal kept → new ≡ old
    → IsSession command input kept new
asks_nothing command input kept old new asks opens is =
    as_session command input kept new [] 0 None (idle kept) asks nothing_told (nothing_done kept) (same_disk kept old new is opens)

-- what a session leaves after these requests is stored
leave_session : (command : Command) (input : Text) (kept : KeptSteps) (old new : OnDisk) (requests : List Request) (done : ℕ) (fault : Option SessionFault) (reached : SessionState)
    (saved : Saved) (changes : ℕ) (message : Option Text) → Opens old.file old.journal kept → Asks command kept.present input requests → fault ≢ Some Memory
    → Performs requests done fault (idle kept) reached → Saves reached.steps saved → (changes ≡ 0 → reached.steps ≡ kept) → new ≡ stored old (outcome_after changes message saved)
    → IsSession command input kept new
leave_session command input kept old new requests done fault reached saved changes message opens asks told performs saves unchanged stores =
    let sound : IsSound reached.steps = (all_keep_sound (take done requests) (idle kept) reached (opened_is_sound old.file old.journal kept opens, tt) performs.did).0 in
    as_session command input kept new requests done fault reached asks told performs
    (⊎_elim
    (λ (is : stored old (outcome_after changes message saved) ≡ left saved). left_opens reached.steps saved new sound saves (stores ∙ is))
    (λ (is : (changes ≡ 0) × (stored old (outcome_after changes message saved) ≡ old)).
    same_disk reached.steps old new (stores ∙ is.1) (subst (λ (k : KeptSteps). Opens old.file old.journal k) (sym (unchanged is.0)) opens))
    (stored_left changes message saved old))

-- what is opened is idle, and what was opened before
pub opened-is : (file : Text) (journal : Option Text) (kept : KeptSteps) (opened : SessionState) → Opens file journal kept → IsOpened file journal opened → opened ≡ idle kept
opened-is file journal kept opened opens is =
    ap (λ (o : OpenStep). record { steps = opened.steps; current = o }) is.closed ∙ ap idle (one-opening file journal opened.steps kept is.opens opens)

-- what is opened, with `--new-journal` or without, is what was opened before
opened-with : (new_journal : Bool) (file : Text) (journal : Option Text) (kept : KeptSteps) (opened : SessionState) → Opens file journal kept → OpensWith new_journal file journal opened
    → opened ≡ idle kept
opened-with new_journal file journal kept opened opens (OpensWith.fitting is) = opened-is file journal kept opened opens is
opened-with new_journal file journal kept opened opens (OpensWith.begun text asked is_text unfit is) =
    absurd (not_unfit file text kept (subst (λ (j : Option Text). Opens file j kept) is_text opens) unfit)

-- a session with these steps is opened with the journal
fits : (new_journal : Bool) (file : Text) (journal : Option Text) (kept : KeptSteps) → Opens file journal kept → OpensWith new_journal file journal (idle kept)
fits new_journal file journal kept opens = OpensWith.fitting (record { opens = opens; closed = refl })

-- requests of a command with this verb
pub asked : (verb : Verb) (command : Command) (present input : Text) (requests : List Request) → verb_of command.name ≡ Some verb → Requests verb command present input requests
    → Asks command present input requests
asked verb command present input requests named asks = subst (λ (v : Option Verb). IsSomeAnd v (λ w. Requests w command present input requests)) (sym named) asks

-- another number than 1
not_one : (n : ℕ) → n ≢ 1 → (n == 1) ≡ false
not_one n other =
    ⊎_elim
    (λ (h : (n == 1) ≡ true). absurd (other (eqb-true n 1 h)))
    (λ (h : (n == 1) ≡ false). h)
    (cases_Bool (n == 1))

-- the requests of a script
script_asks : (command : Command) (present input : Text) → verb_of command.name ≡ Some verbs.Edit → length command.words ≡ 1 → Asks command present input (said_of input).requests
script_asks command present input named lone =
    let is : edits_asked command input ≡ (said_of input).requests = cond-true (length command.words == 1) (said_of input).requests (unwrap_or (asked_by_words (key_words command)) []) (ap (λ n. n == 1) lone) in
    asked verbs.Edit command present input (said_of input).requests named (subst (λ (rs : List Request). AsksEdits command input rs) is AsksEdits.edits)

-- the requests of words
words_ask : (command : Command) (present input : Text) (asked_for : Option (List Request)) → verb_of command.name ≡ Some verbs.Edit → length command.words ≢ 1
    → asked_by_words (key_words command) ≡ asked_for → Asks command present input (unwrap_or asked_for [])
words_ask command present input asked_for named more said =
    let other = not_one (length command.words) more in
    let is : edits_asked command input ≡ unwrap_or (asked_by_words (key_words command)) [] = cond-false (length command.words == 1) (said_of input).requests (unwrap_or (asked_by_words (key_words command)) []) other in
    asked verbs.Edit command present input (unwrap_or asked_for []) named
    (subst (λ (rs : List Request). AsksEdits command input rs) (is ∙ ap (λ (o : Option (List Request)). unwrap_or o []) said) AsksEdits.edits)

-- requests are done in order, and what they leave is stored
edited_run : (command : Command) (input : Text) (kept : KeptSteps) (old new : OnDisk) (answer : Answer) (requests : List Request) (message : ℕ → Option SessionFault → Option Text)
    → Opens old.file old.journal kept → Asks command kept.present input requests → list_all is_scripted requests ≡ true → HasEdited requests message (idle kept) answer
    → new ≡ stored old answer.outcome → IsSession command input kept new
edited_run command input kept old new answer requests message opens asks scripted has stores =
    leave_session command input kept old new requests has.done has.fault has.closed has.saved (edits_in (take has.done requests)) (message has.done has.fault)
    opens asks has.told has.performs has.saves
    (λ none. no_edit_changes (take has.done requests) (idle kept) has.closed (some-pass is_scripted has.done requests scripted) none has.performs.did)
    (stores ∙ ap (λ (a : Answer). stored old a.outcome) has.answered)

pub edit_run : (command : Command) (input : Text) (kept : KeptSteps) (old new : OnDisk) (answer : Answer) → Opens old.file old.journal kept → verb_of command.name ≡ Some verbs.Edit
    → length command.words ≡ 1 → IsEditAnswer command.new_journal old.file old.journal input answer → new ≡ stored old answer.outcome → IsSession command input kept new
edit_run command input kept old new answer opens named lone (AnswersSession.answered opened with (AnswersInput.within short has)) stores =
    edited_run command input kept old new answer (said_of input).requests (stop_line (said_of input)) opens (script_asks command kept.present input named lone) (lines_scripted 1 (lines_of input))
    (subst (λ (s : SessionState). HasEditedBy input s answer) (opened-with command.new_journal old.file old.journal kept opened opens with) has) stores
edit_run command input kept old new answer opens named lone (AnswersSession.answered opened with (AnswersInput.too_long far told)) stores =
    asks_nothing command input kept old new (asked verbs.Edit command kept.present input [] named (AsksEdits.too_long far)) opens (stores ∙ ap (λ (a : Answer). stored old a.outcome) told)
edit_run command input kept old new answer opens named lone (AnswersSession.unopened is) stores =
    absurd (not_refused_with command.new_journal old.file old.journal (idle kept) is.message (fits command.new_journal old.file old.journal kept opens) is.why)

pub words_run : (command : Command) (input : Text) (kept : KeptSteps) (old new : OnDisk) (answer : Answer) → Opens old.file old.journal kept → verb_of command.name ≡ Some verbs.Edit
    → length command.words ≢ 1 → IsWordsAnswer command.new_journal (key_words command) old.file old.journal answer → new ≡ stored old answer.outcome → IsSession command input kept new
words_run command input kept old new answer opens named more (AnswersSession.answered opened with (HasEditedByWords.said requests said has)) stores =
    edited_run command input kept old new answer requests fault_message opens (words_ask command kept.present input (Some requests) named more said) (words_scripted (key_words command) requests said)
    (subst (λ (s : SessionState). HasEdited requests fault_message s answer) (opened-with command.new_journal old.file old.journal kept opened opens with) has) stores
words_run command input kept old new answer opens named more (AnswersSession.answered opened with (HasEditedByWords.bad none told)) stores =
    asks_nothing command input kept old new (words_ask command kept.present input None named more none) opens (stores ∙ ap (λ (a : Answer). stored old a.outcome) told)
words_run command input kept old new answer opens named more (AnswersSession.unopened is) stores =
    absurd (not_refused_with command.new_journal old.file old.journal (idle kept) is.message (fits command.new_journal old.file old.journal kept opens) is.why)

pub turn_run : (command : Command) (input : Text) (kept : KeptSteps) (old new : OnDisk) (answer : Answer) (word : Text) (request : Request) → Opens old.file old.journal kept
    → Asks command kept.present input (replicate command.n request) → IsTurnAnswer word request command.n old.file old.journal answer → new ≡ stored old answer.outcome
    → IsSession command input kept new
turn_run command input kept old new answer word request opens asks (IsTurnAnswer.turned turned turns is) stores =
    let has : HasTurned request command.n (idle kept) turned =
    subst (λ (k : KeptSteps). HasTurned request command.n (idle k) turned) (one-opening old.file old.journal turns.opened kept turns.opens opens) turns.has_turned in
    leave_session command input kept old new (replicate command.n request) turned.performed.done turned.performed.fault has.closed turned.saved turned.performed.done
    (option_map fault_line turned.performed.fault) opens asks has.told has.performs has.saves
    (λ none. ap (λ (s : SessionState). s.steps) (subst (λ n. DoesAll (take n (replicate command.n request)) (idle kept) has.closed) none has.performs.did))
    (stores ∙ ap (λ (a : Answer). stored old a.outcome) is)
turn_run command input kept old new answer word request opens asks (IsTurnAnswer.unopened is) stores =
    absurd (not_unopened old.file old.journal kept is.message opens is.why)

added_run : (command : Command) (input : Text) (kept : KeptSteps) (old new : OnDisk) (answer : Answer) (a : Additions) (told : Text) → Opens old.file old.journal kept
    → Asks command kept.present input (request.Edit (AddMany a.entries) ∷ []) → HasAdded a told (idle kept) answer → new ≡ stored old answer.outcome → IsSession command input kept new
added_run command input kept old new answer a told opens asks (HasAdded.added closed saved makes saves is) stores =
    leave_session command input kept old new (request.Edit (AddMany a.entries) ∷ []) 1 None closed saved 1 None opens asks nothing_told
    (record { within = omega arith; did = (closed, makes, refl); stops = tt }) saves (λ one. absurd (omega (arith, one))) (stores ∙ ap (λ (x : Answer). stored old x.outcome) is)
added_run command input kept old new answer a told opens asks (HasAdded.refused fault known refuses is) stores =
    as_session command input kept new (request.Edit (AddMany a.entries) ∷ []) 0 (Some fault) (idle kept) asks (λ e. known (same_Some fault Memory e))
    (record { within = omega arith; did = refl; stops = refuses }) (same_disk kept old new (stores ∙ ap (λ (x : Answer). stored old x.outcome) is) opens)

read_run : (command : Command) (input : Text) (kept : KeptSteps) (old new : OnDisk) (answer : Answer) → Opens old.file old.journal kept → verb_of command.name ≡ Some verbs.Import
    → HasImported command input (idle kept) answer → new ≡ stored old answer.outcome → IsSession command input kept new
read_run command input kept old new answer opens named (HasImported.read a adds lines skips has) stores =
    added_run command input kept old new answer a (import_told command.skipped a input lines) opens (asked verbs.Import command kept.present input (request.Edit (AddMany a.entries) ∷ []) named (AsksAdditions.addition a adds)) has stores
read_run command input kept old new answer opens named (HasImported.unread fault told refuses is) stores =
    asks_nothing command input kept old new (asked verbs.Import command kept.present input [] named (AsksAdditions.no_text fault told refuses)) opens (stores ∙ ap (λ (a : Answer). stored old a.outcome) is)

pub import_run : (command : Command) (input : Text) (kept : KeptSteps) (old new : OnDisk) (answer : Answer) → Opens old.file old.journal kept → verb_of command.name ≡ Some verbs.Import
    → IsImportAnswer command old.file old.journal input answer → new ≡ stored old answer.outcome → IsSession command input kept new
import_run command input kept old new answer opens named (AnswersSession.answered opened with (AnswersInput.within short has)) stores =
    read_run command input kept old new answer opens named
    (subst (λ (s : SessionState). HasImported command input s answer) (opened-with command.new_journal old.file old.journal kept opened opens with) has) stores
import_run command input kept old new answer opens named (AnswersSession.answered opened with (AnswersInput.too_long far told)) stores =
    asks_nothing command input kept old new (asked verbs.Import command kept.present input [] named (AsksAdditions.too_long far)) opens (stores ∙ ap (λ (a : Answer). stored old a.outcome) told)
import_run command input kept old new answer opens named (AnswersSession.unopened is) stores =
    absurd (not_refused_with command.new_journal old.file old.journal (idle kept) is.message (fits command.new_journal old.file old.journal kept opens) is.why)

put_run : (command : Command) (input : Text) (kept : KeptSteps) (old new : OnDisk) (answer : Answer) (at : Position) (text : Text) (fault : Option SessionFault) → Opens old.file old.journal kept
    → Asks command kept.present input (request.Insert at text ∷ []) → HasPutIn at text (idle kept) answer fault → new ≡ stored old answer.outcome → IsSession command input kept new
put_run command input kept old new answer at text fault opens asks (HasPutIn.inserted closed saved added makes saves gain is) stores =
    leave_session command input kept old new (request.Insert at text ∷ []) 1 None closed saved 1 None opens asks nothing_told
    (record { within = omega arith; did = (closed, makes, refl); stops = tt }) saves (λ one. absurd (omega (arith, one))) (stores ∙ ap (λ (x : Answer). stored old x.outcome) is)
put_run command input kept old new answer at text fault opens asks (HasPutIn.refused own told refuses is) stores =
    as_session command input kept new (request.Insert at text ∷ []) 0 (Some own) (idle kept) asks (λ e. told (same_Some own Memory e))
    (record { within = omega arith; did = refl; stops = refuses }) (same_disk kept old new (stores ∙ ap (λ (x : Answer). stored old x.outcome) is) opens)

put_news_run : (command : Command) (input : Text) (kept : KeptSteps) (old new : OnDisk) (answer : Answer) (at : Position) → Opens old.file old.journal kept → verb_of command.name ≡ Some verbs.Insert
    → position_asked (key_words command) ≡ Some at → HasPutNews at input (idle kept) answer → new ≡ stored old answer.outcome → IsSession command input kept new
put_news_run command input kept old new answer at opens named says (HasPutNews.whole fault other has) stores =
    put_run command input kept old new answer at input fault opens (asked verbs.Insert command kept.present input (request.Insert at input ∷ []) named (AsksInsertion.insertion at says)) has stores
put_news_run command input kept old new answer at opens named says (HasPutNews.news told news fault had are has) stores =
    put_run command input kept old new answer at news fault opens (asked verbs.Insert command kept.present input (request.Insert at news ∷ []) named (AsksInsertion.insertion_of_news at news says are)) has stores

text_run : (command : Command) (input : Text) (kept : KeptSteps) (old new : OnDisk) (answer : Answer) → Opens old.file old.journal kept → verb_of command.name ≡ Some verbs.Insert
    → HasInserted (key_words command) input (idle kept) answer → new ≡ stored old answer.outcome → IsSession command input kept new
text_run command input kept old new answer opens named (HasInserted.asked at says has) stores = put_news_run command input kept old new answer at opens named says has stores
text_run command input kept old new answer opens named (HasInserted.no_position none is) stores =
    asks_nothing command input kept old new (asked verbs.Insert command kept.present input [] named (AsksInsertion.no_position none)) opens (stores ∙ ap (λ (a : Answer). stored old a.outcome) is)

pub insert_run : (command : Command) (input : Text) (kept : KeptSteps) (old new : OnDisk) (answer : Answer) → Opens old.file old.journal kept → verb_of command.name ≡ Some verbs.Insert
    → IsInsertAnswer command.new_journal (key_words command) old.file old.journal input answer → new ≡ stored old answer.outcome → IsSession command input kept new
insert_run command input kept old new answer opens named (AnswersSession.answered opened with (AnswersInput.within short has)) stores =
    text_run command input kept old new answer opens named
    (subst (λ (s : SessionState). HasInserted (key_words command) input s answer) (opened-with command.new_journal old.file old.journal kept opened opens with) has) stores
insert_run command input kept old new answer opens named (AnswersSession.answered opened with (AnswersInput.too_long far told)) stores =
    asks_nothing command input kept old new (asked verbs.Insert command kept.present input [] named (AsksInsertion.too_long far)) opens (stores ∙ ap (λ (a : Answer). stored old a.outcome) told)
insert_run command input kept old new answer opens named (AnswersSession.unopened is) stores =
    absurd (not_refused_with command.new_journal old.file old.journal (idle kept) is.message (fits command.new_journal old.file old.journal kept opens) is.why)

log_run : (command : Command) (input : Text) (kept : KeptSteps) (old new : OnDisk) (answer : Answer) → Opens old.file old.journal kept → verb_of command.name ≡ Some verbs.Log
    → IsLogAnswer old.file old.journal answer → new ≡ stored old answer.outcome → IsSession command input kept new
log_run command input kept old new answer opens named (IsLogAnswer.listed opened is told) stores =
    asks_nothing command input kept old new (asked verbs.Log command kept.present input [] named refl) opens (stores ∙ ap (λ (a : Answer). stored old a.outcome) told)
log_run command input kept old new answer opens named (IsLogAnswer.unopened is) stores =
    absurd (not_unopened old.file old.journal kept is.message opens is.why)

edits_run : (command : Command) (input : Text) (kept : KeptSteps) (old new : OnDisk) (answer : Answer) → Opens old.file old.journal kept → verb_of command.name ≡ Some verbs.Edit
    → IsEditsAnswer command old.file old.journal input answer → new ≡ stored old answer.outcome → IsSession command input kept new
edits_run command input kept old new answer opens named (IsEditsAnswer.script lone is) stores = edit_run command input kept old new answer opens named lone is stores
edits_run command input kept old new answer opens named (IsEditsAnswer.words more is) stores = words_run command input kept old new answer opens named more is stores

-- with `--all-or-nothing` nothing is stored if anything is refused
whole_run : (command : Command) (input : Text) (kept : KeptSteps) (old new : OnDisk) (answer : Answer) → Opens old.file old.journal kept → verb_of command.name ≡ Some verbs.Edit
    → IsWholeAnswer command old.file old.journal input answer → new ≡ stored old answer.outcome → IsSession command input kept new
whole_run command input kept old new answer opens named is stores =
    let made = is.made in
    let refused = command.all_or_nothing && not (made.outcome.status == 0) in
    ⊎_elim
    (λ (t : refused ≡ true).
    let back : answer ≡ taken_back made = is.whole ∙ cond-true refused (taken_back made) made t in
    let asks = asked verbs.Edit command kept.present input [] named (AsksEdits.taken_back (and_parts command.all_or_nothing (not (made.outcome.status == 0)) t).0) in
    asks_nothing command input kept old new asks opens (stores ∙ ap (λ (a : Answer). stored old a.outcome) back))
    (λ (f : refused ≡ false).
    let same : answer ≡ made = is.whole ∙ cond-false refused (taken_back made) made f in
    edits_run command input kept old new made opens named is.edits (stores ∙ ap (λ (a : Answer). stored old a.outcome) same))
    (cases_Bool refused)

answered_run : (verb : Option Verb) (command : Command) (input : Text) (kept : KeptSteps) (old new : OnDisk) (answer : Answer) → verb_of command.name ≡ verb
    → IsSomeAnd verb (λ v. (reads_journal v && not command.no_journal) ≡ true) → Opens old.file old.journal kept → IsSomeAnd verb (λ v. Answers v command old.file old.journal input answer)
    → new ≡ stored old answer.outcome → IsSession command input kept new
answered_run None command input kept old new answer named reads opens is stores = absurd reads
answered_run (Some (verbs.Asks question)) command input kept old new answer named reads opens is stores = absurd (false≢true reads)
answered_run (Some verbs.Cat) command input kept old new answer named reads opens is stores = absurd (false≢true reads)
answered_run (Some verbs.Lint) command input kept old new answer named reads opens is stores = absurd (false≢true reads)
answered_run (Some verbs.Names) command input kept old new answer named reads opens is stores = absurd (false≢true reads)
answered_run (Some verbs.Explain) command input kept old new answer named reads opens is stores = absurd (false≢true reads)
answered_run (Some verbs.Forget) command input kept old new answer named reads opens is stores = absurd (false≢true reads)
answered_run (Some verbs.Merge) command input kept old new answer named reads opens is stores = absurd (false≢true reads)
answered_run (Some verbs.Diff) command input kept old new answer named reads opens is stores = absurd (false≢true reads)
answered_run (Some verbs.Edit) command input kept old new answer named reads opens is stores = whole_run command input kept old new answer opens named is stores
answered_run (Some verbs.Import) command input kept old new answer named reads opens is stores = import_run command input kept old new answer opens named is stores
answered_run (Some verbs.Insert) command input kept old new answer named reads opens is stores = insert_run command input kept old new answer opens named is stores
answered_run (Some verbs.Undo) command input kept old new answer named reads opens is stores =
    turn_run command input kept old new answer (codes "undone") request.Undo opens (asked verbs.Undo command kept.present input (replicate command.n request.Undo) named refl) is stores
answered_run (Some verbs.Redo) command input kept old new answer named reads opens is stores =
    turn_run command input kept old new answer (codes "redone") request.Redo opens (asked verbs.Redo command kept.present input (replicate command.n request.Redo) named refl) is stores
answered_run (Some verbs.Log) command input kept old new answer named reads opens is stores = log_run command input kept old new answer opens named is stores

-- a run without `--print` and `--no-journal` answers what is to be stored
plain : (command : Command) (input : Text) (old new : OnDisk) (run : IsStoredRun command input old new) → run.answer ≡ run.answers.stored
plain command input old new run =
    run.answers.shown
    ∙ ap (λ (b : Bool). shown b (kept_with command.no_journal run.answers.stored)) run.kept
    ∙ ap (λ (b : Bool). kept_with b run.answers.stored) run.journaled

pub a-run-is-a-session : a_run_is_a_session
a-run-is-a-session command input kept old new reads opens run =
    let same = plain command input old new run in
    answered_run (verb_of command.name) command input kept old new run.answers.stored refl reads opens run.answers.answers (run.stores ∙ ap (λ (a : Answer). stored old a.outcome) same)

-- ---- runs one after another

abbrev no_runs : (kept : KeptSteps) (new : OnDisk) → Opens new.file new.journal kept → IsOneSession [] kept new
no_runs kept new opens = record { closed = kept; did = refl; opens = opens; moved = refl }

pub runs-are-one-session : runs_of_the_program_are_one_session
runs-are-one-session [] kept old new opens runs = ([], no_runs kept new (same_disk kept old new runs opens), refl)
runs-are-one-session (call ∷ calls) kept old new opens runs =
    let mid : OnDisk = runs.0 in
    let first : IsSession call.command call.input kept mid = a-run-is-a-session call.command call.input kept old mid runs.1 opens runs.2 in
    let rest = runs-are-one-session calls first.1.closed mid new first.1.opens runs.3 in
    let all : IsOneSession (ended first.0 ++ requests_of rest.0) kept new = sessions-are-one (ended first.0) (requests_of rest.0) kept first.1.closed mid new first.1 first.1.opens rest.1 in
    let same : rest.1.closed ≡ all.closed = one-opening new.file new.journal rest.1.closed all.closed rest.1.opens all.opens in
    (first.0 ∷ rest.0, all, (first.1.closed, first.2, subst (λ (k : KeptSteps). AreAccepted calls rest.0 first.1.closed k) same rest.2))

-- ---- the first file, and the last

-- the requests of a command with this name
asked_by : (name : Text) (command : Command) (present input : Text) (requests : List Request) → command.name ≡ name → Asks command present input requests
    → IsSomeAnd (verb_of name) (λ verb. Requests verb command present input requests)
asked_by name command present input requests named asks = subst (λ (n : Text). IsSomeAnd (verb_of n) (λ verb. Requests verb command present input requests)) named asks

-- a run of a command with this name is a session
opens_session : (name : Text) (command : Command) → command.name ≡ name → command.no_journal ≡ false → IsSomeAnd (verb_of name) (λ verb. (reads_journal verb && not false) ≡ true) → OpensSession command
opens_session name command named journaled reads =
    subst (λ (n : Text). IsSomeAnd (verb_of n) (λ verb. (reads_journal verb && not command.no_journal) ≡ true)) (sym named)
    (subst (λ (b : Bool). IsSomeAnd (verb_of name) (λ verb. (reads_journal verb && not b) ≡ true)) (sym journaled) reads)

pub one-undo-leads-to-the-first-file : one_undo_leads_to_the_first_file
one-undo-leads-to-the-first-file calls undo input first kept old mid new begins runs opens named enough run =
    let before = runs-are-one-session calls first old mid begins runs in
    let same : before.1.closed ≡ kept = one-opening mid.file mid.journal before.1.closed kept before.1.opens opens in
    let this : IsSession undo input kept new = a-run-is-a-session undo input kept mid new (opens_session (codes "undo") undo named run.journaled refl) opens run in
    let accepts = this.2 in
    let performs : Performs (replicate undo.n request.Undo) accepts.done accepts.fault (idle kept) accepts.reached =
    subst (λ (rs : List Request). Performs rs accepts.done accepts.fault (idle kept) accepts.reached) (asked_by (codes "undo") undo kept.present input accepts.requests named accepts.asks) accepts.performs in
    sym (opened_present new.file new.journal this.1.closed this.1.opens)
    ∙ ap (λ (k : KeptSteps). k.present) accepts.kept
    ∙ (undone_all undo.n accepts.done accepts.fault kept accepts.reached enough accepts.told performs).1
    ∙ ap (λ (k : KeptSteps). first_file (history_of k)) (sym same)
    ∙ session_keeps_first (requests_of before.0) old.file old.journal first mid begins before.1

pub one-redo-leads-to-the-last-file : one_redo_leads_to_the_last_file
one-redo-leads-to-the-last-file redo input kept mid new opens named enough run =
    let this : IsSession redo input kept new = a-run-is-a-session redo input kept mid new (opens_session (codes "redo") redo named run.journaled refl) opens run in
    let accepts = this.2 in
    let performs : Performs (replicate redo.n request.Redo) accepts.done accepts.fault (idle kept) accepts.reached =
    subst (λ (rs : List Request). Performs rs accepts.done accepts.fault (idle kept) accepts.reached) (asked_by (codes "redo") redo kept.present input accepts.requests named accepts.asks) accepts.performs in
    sym (opened_present new.file new.journal this.1.closed this.1.opens)
    ∙ ap (λ (k : KeptSteps). k.present) accepts.kept
    ∙ (redone_all redo.n accepts.done accepts.fault kept accepts.reached enough accepts.told performs).1

-- ---- renamings

abbrev AllRename : List Request → Type 0
AllRename requests = list_all is_renaming requests ≡ true

both_rename : (requests others : List Request) → AllRename requests → AllRename others → AllRename (requests ++ others)
both_rename requests others all all' = list_all-append is_renaming requests others ∙ ap (λ b. b && list_all is_renaming others) all ∙ all'

ended_rename : (requests : List Request) → AllRename requests → AllRename (ended requests)
ended_rename requests all = by_end (leaves_open false requests)
  where
    by_end : (b : Bool) → AllRename (if b then requests ++ request.End ∷ [] else requests)
    by_end true = both_rename requests (request.End ∷ []) all refl
    by_end false = all

edits_rename : (command : Command) (input : Text) (requests : List Request) → AllRename (edits_asked command input) → AsksEdits command input requests → AllRename requests
edits_rename command input requests all AsksEdits.edits = all
edits_rename command input requests all (AsksEdits.too_long far) = refl
edits_rename command input requests all (AsksEdits.taken_back asked) = refl

accepted_rename : (calls : List Call) (accepted : List (List Request)) (old new : KeptSteps) → list_all renames calls ≡ true → AreAccepted calls accepted old new
    → AllRename (requests_of accepted)
accepted_rename [] [] old new all are = refl
accepted_rename [] (requests ∷ others) old new all are = absurd are
accepted_rename (call ∷ calls) [] old new all are = absurd are
accepted_rename (call ∷ calls) (requests ∷ others) old new all are =
    let both = and_parts (renames call) (list_all renames calls) all in
    let this = and_parts (bytes_eq call.command.name (codes "edit")) (list_all is_renaming (edits_asked call.command call.input)) both.0 in
    let named : call.command.name ≡ codes "edit" = eq-true call.command.name (codes "edit") this.0 in
    let asks : AsksEdits call.command call.input are.1.requests = asked_by (codes "edit") call.command old.present call.input are.1.requests named are.1.asks in
    let asked : AllRename are.1.requests = edits_rename call.command call.input are.1.requests this.1 asks in
    let here : AllRename requests = ap (λ (rs : List Request). list_all is_renaming rs) are.1.first ∙ some-pass is_renaming are.1.done are.1.requests asked in
    both_rename (ended requests) (requests_of others) (ended_rename requests here) (accepted_rename calls others are.0 new both.1 are.2)

pub runs-of-renamings-keep-every-record : runs_of_renamings_keep_every_record
runs-of-renamings-keep-every-record calls kept old new opens all runs =
    let one = runs-are-one-session calls kept old new opens runs in
    subst (λ (file : Text). OfReadings old.file file KeepsTexts) (opened_present new.file new.journal one.1.closed one.1.opens)
    (subst (λ (file : Text). OfReadings file one.1.closed.present KeepsTexts) (opened_present old.file old.journal kept opens)
    (all-keep (requests_of one.0) (idle kept) (idle one.1.closed) (accepted_rename calls one.0 kept one.1.closed all one.2) one.1.did))

-- ---- `--all-or-nothing`

-- another number than 0
not_zero : (n : ℕ) → n ≢ 0 → not (n == 0) ≡ true
not_zero n other = ⊎_elim
    (λ (h : (n == 0) ≡ true). absurd (other (eqb-true n 0 h)))
    (λ (h : (n == 0) ≡ false). ap not h)
    (cases_Bool (n == 0))

-- what is refused is taken back
refused_whole : (all : Bool) (made answer : Answer) (old : OnDisk) → all ≡ true → answer ≡ whole all made → answer.outcome.status ≢ 0 → stored old answer.outcome ≡ old
refused_whole all made answer old asked is refused =
    ⊎_elim
    (λ (t : here ≡ true). ap (λ (a : Answer). stored old a.outcome) (is ∙ cond-true here (taken_back made) made t))
    (λ (f : here ≡ false).
    let same : answer ≡ made = is ∙ cond-false here (taken_back made) made f in
    let other = not_zero made.outcome.status (λ e. refused (ap (λ (a : Answer). a.outcome.status) same ∙ e)) in
    absurd (false≢true (sym f ∙ ap (λ b. b && not (made.outcome.status == 0)) asked ∙ other)))
    (cases_Bool here)
  where
    here : Bool
    here = all && not (made.outcome.status == 0)

pub a-refused-script-leaves-the-disk : a_refused_script_leaves_the_disk
a-refused-script-leaves-the-disk command input old new named asked run refused =
    let edits : IsWholeAnswer command old.file old.journal input run.answers.stored =
    subst (λ (n : Text). IsSomeAnd (verb_of n) (λ verb. Answers verb command old.file old.journal input run.answers.stored)) named run.answers.answers in
    let same = plain command input old new run in
    run.stores ∙ ap (λ (a : Answer). stored old a.outcome) same
    ∙ refused_whole command.all_or_nothing edits.made run.answers.stored old asked edits.whole (λ e. refused (ap (λ (a : Answer). a.outcome.status) same ∙ e))
