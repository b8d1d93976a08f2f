-- What a session saved is loaded, and is refused for want of memory alone.
use Rattle.bib_journal.proofs.Words.{◌≡◌, Option, None, Some, refl, subst, Text, IsOpenable, KeptSteps, one-contents, SessionFault, Unopened, Refused, JournalFull, NothingToUndo, NothingToRedo, BadJournal, JournalMismatch}
use Rattle.bib_journal.proofs.Words.{StepOpen, NoOpenStep, Memory, FitFile, Loads, contents_of, Opens, RefusesOpen}
use Rattle.bib_journal.specs.Session.{RefusesStart, RefusesLoad}
use Rattle.bib_journal.specs.SavedLoads.{what_is_saved_is_loaded}
use Rattle.bib_journal.proofs.OpenFaults.{open_fault}
use Rattle.bib_journal.proofs.SeveralRuns.{saved_loads}

-- a session that opens is refused for want of memory alone
start_refused : (file : Text) → IsOpenable file → (fault : SessionFault) → RefusesStart fault file → fault ≡ Memory
start_refused file opens Memory why = refl
start_refused file opens (Unopened fault) why = absurd (why.0 (open_fault file fault.kind fault.place opens why.1))
start_refused file opens (BadJournal place) why = absurd why
start_refused file opens JournalMismatch why = absurd why
start_refused file opens (Refused fault) why = absurd why
start_refused file opens JournalFull why = absurd why
start_refused file opens NothingToUndo why = absurd why
start_refused file opens NothingToRedo why = absurd why
start_refused file opens StepOpen why = absurd why
start_refused file opens NoOpenStep why = absurd why

load_refused : (file text : Text) (kept : KeptSteps) → Loads file text kept → (fault : SessionFault) → RefusesLoad fault file text → fault ≡ Memory
load_refused file text kept loads Memory why = refl
load_refused file text kept loads (Unopened fault) why = absurd (why.0 (open_fault file fault.kind fault.place loads.fit.opens why.1))
load_refused file text kept loads (BadJournal place) why = absurd (why.1.none (contents_of kept) loads.journal)
load_refused file text kept loads JournalMismatch why =
    absurd (why.misfit (subst (λ c. FitFile c file) (one-contents text (contents_of kept) why.contents loads.journal why.journal) loads.fit))
load_refused file text kept loads (Refused fault) why = absurd why
load_refused file text kept loads JournalFull why = absurd why
load_refused file text kept loads NothingToUndo why = absurd why
load_refused file text kept loads NothingToRedo why = absurd why
load_refused file text kept loads StepOpen why = absurd why
load_refused file text kept loads NoOpenStep why = absurd why

pub open_refused : (file : Text) (journal : Option Text) (kept : KeptSteps) → Opens file journal kept → (fault : SessionFault) → RefusesOpen fault file journal → fault ≡ Memory
open_refused file None kept opens = start_refused file opens.0
open_refused file (Some text) kept loads = load_refused file text kept loads

pub what-is-saved-is-loaded : what_is_saved_is_loaded
what-is-saved-is-loaded kept saved w saves =
    let loads : Loads saved.file saved.journal kept = saved_loads kept saved w saves in
    (loads, load_refused saved.file saved.journal kept loads)
