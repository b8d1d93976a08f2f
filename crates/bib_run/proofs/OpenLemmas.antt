-- A journal that is unfit.
use Rattle.bib_run.proofs.Words.{◌≡◌, true, Option, Some, None, refl, Text, SessionFault, Unopened, BadJournal, JournalMismatch, SessionState, IsOpened, RefusesOpen, OpensWith, is_of_journal}
use Rattle.bib_journal.specs.declared.fault.SessionFault.TheVariants.{Refused, JournalFull, NothingToUndo, NothingToRedo, StepOpen, NoOpenStep, Memory}
use Rattle.bib_run.specs.Sessions.{none, mismatch, begun}

-- where the journal is at fault, the file is opened as one to which nothing was done
pub opens_anew : (fault : SessionFault) (file : Text) (journal : Option Text) (state : SessionState) → is_of_journal fault ≡ true → RefusesOpen fault file journal
    → IsOpened file None state → OpensWith true file journal state
opens_anew (BadJournal place) file None state is refuses opens = absurd refuses
opens_anew (BadJournal place) file (Some text) state is refuses opens = begun text refl refl (none place refuses.1) opens
opens_anew JournalMismatch file None state is refuses opens = absurd refuses
opens_anew JournalMismatch file (Some text) state is refuses opens = begun text refl refl (mismatch refuses) opens
opens_anew (Unopened fault) file journal state is refuses opens = cc
opens_anew (Refused fault) file journal state is refuses opens = cc
opens_anew JournalFull file journal state is refuses opens = cc
opens_anew NothingToUndo file journal state is refuses opens = cc
opens_anew NothingToRedo file journal state is refuses opens = cc
opens_anew StepOpen file journal state is refuses opens = cc
opens_anew NoOpenStep file journal state is refuses opens = cc
opens_anew Memory file journal state is refuses opens = cc
