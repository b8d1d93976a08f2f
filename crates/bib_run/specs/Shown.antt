-- What is stored and shown of an answer, with `--print` and `--no-journal` or without. (dialect)
use Rattle.std.specs.Prelude.{◌≡◌, Bool, false, if◌then◌else◌, [], None, unwrap_or}
use Rattle.bib_journal.specs.declared.saving.Saved.{Saved}
use Rattle.bib_journal.specs.Loading.{Saves}
use Rattle.history_spec.specs.Steps.{KeptSteps}
use Rattle.bib_answers.specs.declared.answers.Answer.{Answer}
use Rattle.bib_answers.specs.Outcome.{answer_of}

-- ---- `--print`

-- The output is the file that would be stored, or nothing if none would be. Neither file nor journal is stored; message and status
-- are unchanged.
abbrev pub printed : Answer → Answer
printed answer = answer_of (unwrap_or answer.outcome.file []) answer.outcome.message answer.outcome.status

-- the answer as a command gives it, with `--print` or without
abbrev pub shown : Bool → Answer → Answer
shown print answer = if print then printed answer else answer

-- ---- `--no-journal`

-- the answer, of which no journal is stored
abbrev pub without_journal : Answer → Answer
without_journal answer = record answer { outcome = record answer.outcome { journal = None } }

-- the answer with what is stored of it, with `--no-journal` or without
abbrev pub kept_with : Bool → Answer → Answer
kept_with no_journal answer = if no_journal then without_journal answer else answer

-- ---- answers whose journal is not made

-- the file of what is saved, and with a journal that is kept the journal too
pub record SavesUpTo (no_journal : Bool) (kept : KeptSteps) (given : Saved) : Type 0 where
  pub saved : Saved
  pub saves : Saves kept saved
  pub file : given.file ≡ saved.file
  pub journal : no_journal ≡ false → given ≡ saved

-- an answer that is one of these, except for its journal if that is not kept
pub record IsUpTo (no_journal : Bool) (Answers : Answer → Type 0) (given : Answer) : Type 0 where
  pub stored : Answer
  pub answers : Answers stored
  pub same : kept_with no_journal given ≡ kept_with no_journal stored
