-- A call that is done, or refused, with its report.
use Rattle.std.proofs.Common.{◌≡◌, ℕ, List, Option, Some, None, Result, Ok, Err, OnOk, OnErr, IfErr}
use Rattle.bib_spec.specs.Text.{Text}
use Rattle.bib_answers.specs.declared.answers.Answer.{Answer}
use Rattle.bib_journal.specs.OpenSteps.{SessionState}
use Rattle.bib_journal.specs.Session.{IsOpened, RefusesOpen}
use Rattle.bib_journal.specs.declared.fault.SessionFault.{SessionFault}
use Rattle.bib_spec.specs.Records.{IsDepth}
use Rattle.bib_state.specs.Telling.{GivesEntry, RefusesEntry}
use Rattle.bib_state.specs.Calls.{Moves, IsOpen, MakesWords, RefusesWords}
use Rattle.bib_state.specs.declared.fault.CallFault.{CallFault}
use Rattle.bib_state.specs.declared.fault.CallFault.TheVariants.{Session}
use Rattle.bib_state.specs.declared.state.State.{State}
use Rattle.bib_c.specs.Reports.{reported}
use Rattle.bib_c.specs.Words.{words_of}
use Rattle.bib_c.specs.Calls.{Reports, done, refused, MovesOn, Gives, Refused, Opens, Edits, TellsEntry, untold, said}
use Rattle.bib_c.specs.declared.report.Report.{Report}

-- a call that moves the session on
pub moves_reported : {how : SessionState → SessionState → Type 0} {refuses : CallFault → State → Type 0} {report : Report} {old new : State} (made : Result (Unit {0}) CallFault)
    → OnOk made (report ≡ reported None 0 0) → IfErr made (λ fault. report ≡ reported (Some fault) 0 0)
    → OnOk made (Moves how old.session new.session) → IfErr made (λ fault. refuses fault old) → new.answer ≡ old.answer → OnErr made (new ≡ old)
    → Reports (MovesOn how) refuses report old new
moves_reported (Ok u) is none moves refuses answer same = done is (record { moved = moves; answer = answer })
moves_reported (Err fault) none is moves refuses answer same = refused fault is refuses same

-- a call that gives texts
pub gives_reported : {what : Answer → SessionState → Type 0} {refuses : CallFault → State → Type 0} {report : Report} {old new : State} (made : Result (Unit {0}) CallFault)
    → OnOk made (report ≡ reported None 0 0) → IfErr made (λ fault. report ≡ reported (Some fault) 0 0)
    → OnOk made (IsOpen (what new.answer) old.session) → IfErr made (λ fault. refuses fault old) → new.session ≡ old.session → OnErr made (new ≡ old)
    → Reports (Gives what) refuses report old new
gives_reported (Ok u) is none gives refuses session same = done is (record { given = gives; session = session })
gives_reported (Err fault) none is gives refuses session same = refused fault is refuses same

-- a session that is opened
pub opening_reported : {file : Text} {journal : Option Text} {report : Report} {old new : State} (made : Result (Unit {0}) SessionFault)
    → OnOk made (report ≡ reported None 0 0) → IfErr made (λ fault. report ≡ reported (Some (Session fault)) 0 0)
    → OnOk made (IsOpen (IsOpened file journal) new.session) → IfErr made (λ fault. RefusesOpen fault file journal) → new.answer ≡ old.answer → OnErr made (new ≡ old)
    → Opens file journal report old new
opening_reported (Ok u) is none opened refuses answer same = done is (record { opened = opened; answer = answer })
opening_reported (Err fault) none is opened refuses answer same = refused (Session fault) is refuses same

-- an edit by words
pub edit_reported : {text : Text} {lens : List ℕ} {report : Report} {old new : State} (words : List Text) (made : Result (Unit {0}) CallFault) → words_of text lens ≡ Some words
    → OnOk made (report ≡ reported None 0 0) → IfErr made (λ fault. report ≡ reported (Some fault) 0 0)
    → OnOk made (Moves (MakesWords words) old.session new.session) → IfErr made (λ fault. Refused (RefusesWords words) fault old) → new.answer ≡ old.answer → OnErr made (new ≡ old)
    → Edits text lens report old new
edit_reported words (Ok u) flat is none moves refuses answer same = done is (record { words = words; said = flat; made = record { moved = moves; answer = answer } })
edit_reported words (Err fault) flat none is moves refuses answer same = refused fault is (said words flat refuses) same

-- an entry that is told
pub telling_reported : {key : Text} {depth : ℕ} {report : Report} {old new : State} (made : Result (Unit {0}) CallFault) → IsDepth depth
    → OnOk made (report ≡ reported None 0 0) → IfErr made (λ fault. report ≡ reported (Some fault) 0 0)
    → OnOk made (IsOpen (GivesEntry key depth new.answer) old.session) → IfErr made (λ fault. Refused (RefusesEntry key depth) fault old) → new.session ≡ old.session → OnErr made (new ≡ old)
    → TellsEntry key depth report old new
telling_reported (Ok u) within is none gives refuses session same = done is (record { given = gives; session = session })
telling_reported (Err fault) within none is gives refuses session same = refused fault is (untold within refuses) same
