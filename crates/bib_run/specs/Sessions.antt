-- A session over a file and its journal: why none is opened, and what a session leaves. (dialect)
use Rattle.std.specs.Prelude.{ℕ, Bool, true, false, ◌≡◌, ◌≢◌, ◌==◌, if◌then◌else◌, [], ◌++◌, Option, Some, None, codes}
use Rattle.std.specs.Fmt.{decimal}
use Rattle.bib_spec.specs.Text.{Text}
use Rattle.bib_spec.specs.Texts.{IsOpenable}
use Rattle.bib_store.specs.Readings.{IsOpenFault}
use Rattle.journal_format.specs.Faults.{IsNoJournal}
use Rattle.bib_journal.specs.declared.fault.SessionFault.{SessionFault}
use Rattle.bib_journal.specs.declared.fault.SessionFault.TheVariants.{BadJournal, JournalMismatch}
use Rattle.bib_journal.specs.declared.saving.Saved.{Saved}
use Rattle.bib_journal.specs.Faults.{fault_number}
use Rattle.bib_journal.specs.Loading.{IsMismatch}
use Rattle.bib_journal.specs.OpenSteps.{SessionState}
use Rattle.bib_journal.specs.Session.{IsOpened}
use Rattle.bib_answers.specs.declared.answers.Outcome.{Outcome}
use Rattle.bib_answers.specs.declared.answers.Answer.{Answer}
use Rattle.bib_answers.specs.Messages.{refusal_line}
use Rattle.bib_run.specs.SessionNames.{session_fault_name}
use Rattle.bib_answers.specs.Outcome.{answer_of}

-- ---- messages

-- the line `bibkeep: 53 BadJournal at P`
abbrev pub bad_journal_line : ℕ → Text
bad_journal_line place = codes "bibkeep: 53 BadJournal at " ++ (decimal place ++ codes "\n")

-- the message of a journal that does not fit its file
abbrev pub mismatch_line : Text
mismatch_line = codes "bibkeep: 54 JournalMismatch\n"

-- the line `bibkeep: N Name`
abbrev pub fault_line : SessionFault → Text
fault_line fault = codes "bibkeep: " ++ (decimal (fault_number fault) ++ (codes " " ++ (session_fault_name (fault_number fault) ++ codes "\n")))

-- ---- opening

-- The file and its journal open no session, and the message says why: the file is at fault, or the journal is no journal, or the
-- journal does not fit the file.
pub data IsUnopened (file : Text) : Option Text → Text → Type 0 where
  file : (journal : Option Text) (kind place : ℕ) → kind ≢ 10 → IsOpenFault file kind place → IsUnopened file journal (refusal_line kind place)
  journal : (text : Text) (place : ℕ) → IsOpenable file → IsNoJournal text place → IsUnopened file (Some text) (bad_journal_line place)
  mismatch : (text : Text) → IsMismatch file text → IsUnopened file (Some text) mismatch_line

-- the answer when no session is opened: no output, and the message says why
pub record IsUnopenedAnswer (file : Text) (journal : Option Text) (answer : Answer) : Type 0 where
  pub message : Text
  pub why : IsUnopened file journal message
  pub answered : answer ≡ answer_of [] message 1

-- ---- `--new-journal`

-- the text is not a journal, or it does not fit the file
pub data IsUnfit (file text : Text) : Type 0 where
  none : (place : ℕ) → IsNoJournal text place → IsUnfit file text
  mismatch : IsMismatch file text → IsUnfit file text

-- A session is opened with the journal. With `--new-journal` an unfit journal is left out: the session has no steps then.
pub data OpensWith (new_journal : Bool) (file : Text) (journal : Option Text) (opened : SessionState) : Type 0 where
  fitting : IsOpened file journal opened → OpensWith new_journal file journal opened
  begun : (text : Text) → new_journal ≡ true → journal ≡ Some text → IsUnfit file text → IsOpened file None opened → OpensWith new_journal file journal opened

-- the journal that can be a reason to open no session: with `--new-journal` no journal can
abbrev pub judged_journal : Bool → Option Text → Option Text
judged_journal new_journal given = if new_journal then None else given

-- whether the journal is at fault, and not the file
abbrev pub is_of_journal : SessionFault → Bool
is_of_journal (BadJournal place) = true
is_of_journal JournalMismatch = true
is_of_journal other = false

-- ---- leaving

-- the text to be stored: none if the session stopped before its first change
abbrev pub text_left : ℕ → Text → Option Text
text_left done text = if done == 0 then None else Some text

-- The outcome after `done` changes: the new file and its journal are stored. If something stopped the changes, the message says
-- what; then nothing is stored if there was no change.
abbrev pub outcome_after : ℕ → Option Text → Saved → Outcome
outcome_after done None saved = record { file = Some saved.file; journal = Some saved.journal; message = []; status = 0 }
outcome_after done (Some message) saved = record { file = text_left done saved.file; journal = text_left done saved.journal; message = message; status = 1 }
