-- How the program ends, and what it puts in place.
use Rattle.std.specs.Prelude.{ℕ, ◌≡◌, ◌≢◌, Bool, true, false, ◌||◌, is_some, [], codes, slice_get, IsUtf8, Option, Some, None, option_map, Result, MatchResult, IfOk}
use Rattle.std.specs.declared.io.Error.{Error}
use Rattle.bib_spec.specs.Text.{Text}
use Rattle.bib_words.specs.declared.commands.Command.{Command}
use Rattle.bib_words.specs.Command.{IsCommand, has_others}
use Rattle.bib_answers.specs.declared.answers.Outcome.{Outcome}
use Rattle.bib_run.specs.Runs.{TapsView, IsRun, taps, fresh}
use Rattle.bib_run.specs.declared.reading.Sources.{Sources}
use Rattle.bib_shelf.specs.declared.joining.Joined.{Joined}
use Rattle.bibkeep.specs.declared.opening.Opened.{Opened}
use Rattle.bibkeep.specs.declared.merging.Three.{Three}
use Rattle.bibkeep.specs.declared.other_files.FileFault.{FileFault}
use Rattle.bibkeep.specs.Causes.{IsErrorStatus, fault_status}
use Rattle.bibkeep.specs.Opening.{StoresJournal, IsOpenedFor, told_by}
use Rattle.bibkeep.specs.Together.{EndsTogether, EndsBetween}
use Rattle.bibkeep.specs.Merging.{RanMerge}
use Rattle.bib_files.specs.Folders.{Files, Told}
use Rattle.bib_files.specs.Storing.{Paths, AreStored, AreUnstored}

-- A run of the command over new taps: of a file and a journal that tell these bytes, and of standard input and standard output, which
-- tell none.
pub record RanHere (command : Command) (file : Option Text) (journal : Option (Option Text)) (outcome : Outcome) : Type 0 where
  pub now : TapsView
  pub ran : IsRun command (taps (fresh file) (option_map fresh journal) (fresh None) (fresh None)) now outcome

-- the outcome leaves something to be put in place
abbrev pub leaves_some : Outcome → Bool
leaves_some outcome = is_some outcome.file || is_some outcome.journal

-- After a run with this outcome, over a file with these paths, if it has any, the program ends with this status and leaves this of the
-- folder: all that the outcome leaves is in place, and the status is the outcome's; or the outcome leaves nothing; or it could not be
-- stored, or there are no paths, and the status is 3.
pub data IsFinished (paths : Option Paths) (outcome : Outcome) (status : ℕ) (old new : Option Files) : Type 0 where
  stored : (at : Paths) → paths ≡ Some at → status ≡ outcome.status → Told (AreStored at outcome.file outcome.journal) old new → IsFinished paths outcome status old new
  nothing : leaves_some outcome ≡ false → status ≡ outcome.status → new ≡ old → IsFinished paths outcome status old new
  unstored : (at : Paths) → paths ≡ Some at → leaves_some outcome ≡ true → status ≡ 3 → Told (AreUnstored at outcome.file) old new → IsFinished paths outcome status old new
  no_place : paths ≡ None → leaves_some outcome ≡ true → status ≡ 3 → new ≡ old → IsFinished paths outcome status old new

-- The command was run over a file and a journal that tell these bytes, and finished with this status.
pub record RanAndFinished (command : Command) (paths : Option Paths) (file : Option Text) (journal : Option (Option Text)) (status : ℕ) (old new : Option Files) : Type 0 where
  pub outcome : Outcome
  pub ran : RanHere command file journal outcome
  pub finished : IsFinished paths outcome status old new

-- The three files with these bytes were merged, and the merge finished with this status.
pub record MergedAndFinished (command : Command) (paths : Option Paths) (base ours theirs : Text) (status : ℕ) (old new : Option Files) : Type 0 where
  pub outcome : Outcome
  pub ran : RanMerge command base ours theirs outcome
  pub finished : IsFinished paths outcome status old new

-- The command was run over a source without a place, and this is the status of the run.
pub record RanAlone (command : Command) (source : Option Text) (status : ℕ) : Type 0 where
  pub outcome : Outcome
  pub ran : RanHere command source None outcome
  pub is : status ≡ outcome.status

-- The command was run over the file that was opened and its journal, and finished with this status. They and their folder tell nothing.
abbrev pub HasRun : Command → Opened → ℕ → Type 0
HasRun command opened status = RanAndFinished command opened.paths None (told_by opened.journal) status None None

-- How a command ends over the file that was opened: it was run; or it stores a journal, for which there is no room, and the status is 3.
pub data EndsOpened (command : Command) (opened : Opened) (status : ℕ) : Type 0 where
  ran : HasRun command opened status → EndsOpened command opened status
  no_room : StoresJournal command → is_some opened.paths ≡ true → status ≡ 3 → EndsOpened command opened status

-- how a command ends over a file that was opened, or could not be opened
abbrev pub EndsWith : Command → Result Opened Error → ℕ → Type 0
EndsWith command opened status = MatchResult opened (λ file. EndsOpened command file status) (λ error. IsErrorStatus error 3 status)

-- the three files were merged, and the merge finished with this status; their folder tells nothing
abbrev pub EndsMerged : Command → Three → ℕ → Type 0
EndsMerged command three status = MergedAndFinished command three.place.paths three.base three.ours three.theirs status None None

-- the commands that are run over one file, with a journal or without
pub record IsOverFile (c : Command) : Type 0 where
  pub alone : has_others c ≡ false
  pub other_than_merge : c.name ≢ codes "merge"
  pub other_than_explain : c.name ≢ codes "explain"
  pub other_than_diff : c.name ≢ codes "diff"

-- The program ends with this status for this command.
pub data EndsFor (command : Command) (status : ℕ) : Type 0 where
  -- over several files: the status of a run over all of them, or that of the file that could not be read
  together : has_others command ≡ true → (files : Result Joined FileFault)
      → MatchResult files (λ _. EndsTogether command status) (λ why. status ≡ fault_status why) → EndsFor command status
  no_names : has_others command ≡ true → status ≡ 4 → EndsFor command status
  -- `merge` and `diff`: over the three files and the two, or that of the file that could not be read
  merged : has_others command ≡ false → command.name ≡ codes "merge" → (files : Result Three FileFault)
      → MatchResult files (λ three. EndsMerged command three status) (λ why. status ≡ fault_status why) → EndsFor command status
  compared : has_others command ≡ false → command.name ≡ codes "diff" → (sources : Result Sources FileFault)
      → MatchResult sources (λ read. EndsBetween command read status) (λ why. status ≡ fault_status why) → EndsFor command status
  -- `explain`: over nothing
  explained : has_others command ≡ false → command.name ≡ codes "explain" → RanAlone command (Some []) status → EndsFor command status
  -- another command without a word: over standard input, which tells nothing
  typed : IsOverFile command → command.words ≡ [] → RanAlone command None status → EndsFor command status
  -- another command: over its file, if it could be opened
  opened : IsOverFile command → (opened : Result Opened Error) → IfOk opened (IsOpenedFor command) → EndsWith command opened status → EndsFor command status
  no_path : IsOverFile command → (path : Text) → slice_get command.words 0 ≡ Some path → ¬ IsUtf8 path → status ≡ 2 → EndsFor command status
  -- no command of the program
  no_command : ¬ IsCommand command → status ≡ 2 → EndsFor command status
