-- Any run of the program over one file, and what it leaves on the disk. (dialect)
use Rattle.std.specs.Prelude.{◌≡◌, true, Option, Some, None}
use Rattle.bib_spec.specs.Text.{Text}
use Rattle.bib_spec.specs.Texts.{IsOpenable}
use Rattle.history_spec.specs.Steps.{KeptSteps}
use Rattle.bib_journal.specs.Session.{started, Opens}
use Rattle.bib_journal.specs.Runs.{OnDisk}
use Rattle.bib_words.specs.declared.commands.Command.{Command}
use Rattle.bib_words.specs.declared.verbs.Verb.TheVariants.{Forget}
use Rattle.bib_words.specs.Verbs.{verb_of}
use Rattle.bib_words.specs.Command.{ReadsJournal}
use Rattle.bib_answers.specs.declared.answers.Answer.{Answer}
use Rattle.bib_run.specs.Answers.{IsAnswer}
use Rattle.bib_run.specs.Sessions.{IsUnfit}
use Rattle.bib_run.specs.StoredRuns.{stored, IsSession, Call}

-- what a run of the command reads of this journal: all of it; or nothing, if the command reads no journal
pub data ReadsOfJournal (command : Command) (journal read : Option Text) : Type 0 where
  all : ReadsJournal command → read ≡ journal → ReadsOfJournal command journal read
  nothing : ¬ ReadsJournal command → read ≡ None → ReadsOfJournal command journal read

-- A run of a command over what is on the disk: it answers to what it reads, and what its answer leaves is stored; or a call failed or
-- memory ran out, and nothing is stored.
pub data IsProgramRun (call : Call) (old new : OnDisk) : Type 0 where
  answered : (journal : Option Text) (answer : Answer) → ReadsOfJournal call.command old.journal journal → IsAnswer call.command old.file journal call.input answer
      → new ≡ stored old answer.outcome → IsProgramRun call old new
  failed : new ≡ old → IsProgramRun call old new

-- What a run leaves on the disk.
pub data KeepsHistory (call : Call) (old new : OnDisk) : Type 0 where
  -- what was there
  still : new ≡ old → KeepsHistory call old new
  -- what a session leaves that goes on from what the file and its journal keep
  goes_on : (kept : KeptSteps) → Opens old.file old.journal kept → IsSession call.command call.input kept new → KeepsHistory call old new
  -- with `--new-journal`, where the journal is unfit: what a session leaves that begins with the file
  begins : (text : Text) → call.command.new_journal ≡ true → old.journal ≡ Some text → IsUnfit old.file text → IsOpenable old.file
      → IsSession call.command call.input (started old.file) new → KeepsHistory call old new
  -- with `--no-journal`: the file that such a session leaves, and the journal that was there
  file_alone : (left : OnDisk) → call.command.no_journal ≡ true → IsOpenable old.file → IsSession call.command call.input (started old.file) left
      → new ≡ record old { file = left.file } → KeepsHistory call old new
  -- after `forget`: the file that was there, and a journal with no steps
  forgets : verb_of call.command.name ≡ Some Forget → new.file ≡ old.file → Opens new.file new.journal (started old.file) → KeepsHistory call old new

-- Any run over any file goes on so: of whatever command, with whatever options, whatever it reads, and whatever failed.
abbrev pub any_run_keeps_the_history : Type 0
any_run_keeps_the_history = (call : Call) (old new : OnDisk) → IsProgramRun call old new → KeepsHistory call old new

-- A run with `--print` leaves the disk as it was.
abbrev pub a_printed_run_leaves_the_disk : Type 0
a_printed_run_leaves_the_disk = (call : Call) (old new : OnDisk) → call.command.print ≡ true → IsProgramRun call old new → new ≡ old
