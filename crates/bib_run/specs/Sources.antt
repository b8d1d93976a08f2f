-- How a command reads its sources: its file, its journal and its input. (dialect)
use Rattle.std.specs.Prelude.{◌≡◌, ◌+◌, true, [], take, Option, Some, None}
use Rattle.bib_spec.specs.Bytes.{file_limit}
use Rattle.bib_spec.specs.Text.{Text}
use Rattle.journal_format.specs.JournalText.{journal_limit}
use Rattle.bib_words.specs.declared.commands.Command.{Command}
use Rattle.bib_words.specs.Command.{ReadsJournal, TakesInput}
use Rattle.bib_answers.specs.declared.answers.Outcome.{Outcome}
use Rattle.bib_answers.specs.Outcome.{outcome_of}
use Rattle.bib_run.specs.declared.reading.Sources.{Sources}
use Rattle.bib_run.specs.Messages.{read_fault_line}
use Rattle.bib_run.specs.Transfers.{ReadsUpTo, HasBytes}
use Rattle.bib_run.specs.Views.{TapView, has_any_failed}

-- the taps of the sources at one moment; the journal's only if there is a journal
pub record SourcesView : Type 0 where
  pub file : TapView
  pub journal : Option TapView
  pub input : TapView

-- the taps of the sources, from those of a file, a journal and an input
abbrev pub sources : TapView → Option TapView → TapView → SourcesView
sources file journal input = record { file = file; journal = journal; input = input }

-- a source with these bytes was read, to its end or to one byte past the limit
pub record WasRead (old new : TapView) (bytes : Text) : Type 0 where
  pub read : HasBytes (file_limit + 1) old.bytes new.bytes bytes
  pub sound : new.failed ≡ old.failed

-- the input was read, if the command takes input; else nothing of it was read
pub data HasInput (command : Command) (old new : TapView) (input : Text) : Type 0 where
  read : TakesInput command → WasRead old new input → HasInput command old new input
  unread : ¬ TakesInput command → new ≡ old → input ≡ [] → HasInput command old new input

-- A command read this much of its journal: up to its end, or to one byte past the greatest length of a journal. It read nothing
-- if there is no journal, or if it is a command that reads none.
pub data HasJournal (command : Command) : Option TapView → Option TapView → Option Text → Type 0 where
  read : (old new : TapView) (text : Text) → ReadsJournal command → ReadsUpTo (journal_limit + 1) old.bytes new.bytes text → new.failed ≡ old.failed
      → HasJournal command (Some old) (Some new) (Some text)
  none : HasJournal command None None None
  unread : (old : TapView) → ¬ ReadsJournal command → HasJournal command (Some old) (Some old) None

-- The sources of a command hold these bytes. Each source that the command reads was read, and no call on one failed.
pub record Hold (command : Command) (old new : SourcesView) (bytes : Sources) : Type 0 where
  pub file : WasRead old.file new.file bytes.file
  pub journal : HasJournal command old.journal new.journal bytes.journal
  pub input : HasInput command old.input new.input bytes.input

-- what is kept of the bytes of a file or an input: no more than one byte past the limit
abbrev pub front : Text → Text
front bytes = take (file_limit + 1) bytes

-- the front of bytes of which this holds was kept
pub record Keeps (Holds : Text → Type 0) (kept : Text) : Type 0 where
  pub bytes : Text
  pub hold : Holds bytes
  pub kept_is : kept ≡ front bytes

-- what is kept of the bytes of all sources
abbrev pub fronts : Sources → Sources
fronts bytes = record { file = front bytes.file; journal = bytes.journal; input = front bytes.input }

-- a command read its sources, and kept this of what they hold
pub record HasRead (command : Command) (old new : SourcesView) (kept : Sources) : Type 0 where
  pub bytes : Sources
  pub hold : Hold command old new bytes
  pub kept_is : kept ≡ fronts bytes

-- no call on a source failed
pub record AreSound (old new : SourcesView) : Type 0 where
  pub file : new.file.failed ≡ old.file.failed
  pub journal : has_any_failed new.journal ≡ has_any_failed old.journal
  pub input : new.input.failed ≡ old.input.failed

-- A call on a source failed. The sources are read in order: file, journal, input. No call failed on a source before it, and no
-- call was made on a source after it.
pub data HasFailed (old new : SourcesView) : Type 0 where
  file : new.file.failed ≡ true → new.journal ≡ old.journal → new.input ≡ old.input → HasFailed old new
  journal : new.file.failed ≡ old.file.failed → has_any_failed new.journal ≡ true → new.input ≡ old.input → HasFailed old new
  input : new.file.failed ≡ old.file.failed → has_any_failed new.journal ≡ has_any_failed old.journal → new.input.failed ≡ true → HasFailed old new

-- the outcome of a run whose sources were not read: a call on one failed, or memory ran out and no call failed
pub data EndsUnread (old new : SourcesView) (outcome : Outcome) : Type 0 where
  read_fault : HasFailed old new → outcome ≡ outcome_of read_fault_line 3 → EndsUnread old new outcome
  no_memory : AreSound old new → outcome ≡ outcome_of [] 4 → EndsUnread old new outcome
