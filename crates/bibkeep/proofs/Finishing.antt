-- How the program ends.
use Rattle.std.proofs.Common.{◌≡◌, ℕ, List, Bool, true, false, Option, Some, None, option_map, refl, ap₂, subst, if◌then◌else◌}
use Rattle.bib_spec.specs.Text.{Text}
use Rattle.bib_words.specs.declared.commands.Command.{Command}
use Rattle.bib_answers.specs.declared.answers.Outcome.{Outcome}
use Rattle.bib_run.specs.Runs.{TapView, TapsView, IsRun, taps, fresh}
use Rattle.bib_files.specs.Folders.{Files, Told}
use Rattle.bib_files.specs.Storing.{Paths, AreStored, AreUnstored}
use Rattle.shelf_run.specs.Runs.{IsShelfRun}
use Rattle.merge_run.specs.Runs.{IsMergeRun}
use Rattle.bib_run.specs.declared.reading.Sources.{Sources}
use Rattle.bib_run.specs.Runs.{IsRunOver}
use Rattle.bibkeep.specs.Together.{RanTogether, RanBetween, all_names}
use Rattle.bibkeep.specs.Merging.{RanMerge}
use Rattle.bibkeep.specs.Ending.{RanHere, IsFinished, leaves_some}

-- a tap that was not called yet
pub new_tap : (bytes told : Option Text) (failed : Bool) → bytes ≡ told → failed ≡ false → ◌≡◌ {A = TapView} (record { bytes = bytes; failed = failed }) (fresh told)
new_tap bytes told failed is sound = ap₂ (λ (b : Option Text) (f : Bool). record { bytes = b; failed = f }) is sound

-- a writer that tells nothing tells nothing, whether control bytes are shown or not
pub none_either : (b : Bool) → ◌≡◌ {A = Option Text} (if b then None else None) None
none_either true = refl
none_either false = refl

-- a run over new taps
pub ran_over : (command : Command) (file : Option Text) (journal : Option (Option Text)) (a : TapView) (b : Option TapView) (c d : TapView) (now : TapsView) (outcome : Outcome)
    → IsRun command (taps a b c d) now outcome → a ≡ fresh file → b ≡ option_map fresh journal → c ≡ fresh None → d ≡ fresh None → RanHere command file journal outcome
ran_over command file journal a b c d now outcome ran is_file is_journal is_input is_out = record {
  now = now;
  ran = subst (λ (t : TapView). IsRun command (taps (fresh file) (option_map fresh journal) (fresh None) t) now outcome) is_out
      (subst (λ (t : TapView). IsRun command (taps (fresh file) (option_map fresh journal) t d) now outcome) is_input
      (subst (λ (t : Option TapView). IsRun command (taps (fresh file) t c d) now outcome) is_journal
      (subst (λ (t : TapView). IsRun command (taps t b c d) now outcome) is_file ran)));
}

-- all that the outcome leaves is in place, if the bytes that were stored are those that it leaves
pub stored_so : (paths : Option Paths) (at : Paths) (outcome : Outcome) (status : ℕ) (file journal : Option Text) (old new : Option Files)
    → paths ≡ Some at → status ≡ outcome.status → file ≡ outcome.file → journal ≡ outcome.journal → Told (AreStored at file journal) old new
    → IsFinished paths outcome status old new
stored_so paths at outcome status file journal old new place is is_file is_journal told =
    IsFinished.stored at place is (subst (λ (f : Option Text). Told (AreStored at f outcome.journal) old new) is_file
    (subst (λ (j : Option Text). Told (AreStored at file j) old new) is_journal told))

-- what the outcome leaves could not be stored
pub unstored_so : (paths : Option Paths) (at : Paths) (outcome : Outcome) (status : ℕ) (file : Option Text) (old new : Option Files)
    → paths ≡ Some at → leaves_some outcome ≡ true → status ≡ 3 → file ≡ outcome.file → Told (AreUnstored at file) old new
    → IsFinished paths outcome status old new
unstored_so paths at outcome status file old new place some is is_file told =
    IsFinished.unstored at place some is (subst (λ (f : Option Text). Told (AreUnstored at f) old new) is_file told)

-- a run over several files, with a tap over standard output that was not called yet
pub ran_together : (command : Command) (names texts : List Text) (out now : TapView) (outcome : Outcome) → names ≡ all_names command → out ≡ fresh None
    → IsShelfRun command names texts out now outcome → RanTogether command outcome
ran_together command names texts out now outcome of_command new ran = record {
  texts = texts;
  now = now;
  ran = subst (λ (t : TapView). IsShelfRun command (all_names command) texts t now outcome) new
      (subst (λ (ns : List Text). IsShelfRun command ns texts out now outcome) of_command ran);
}

-- a merge of three files, with a tap over standard output that was not called yet
pub ran_merge : (command : Command) (base ours theirs : Text) (out now : TapView) (outcome : Outcome) → out ≡ fresh None
    → IsMergeRun command base ours theirs out now outcome → RanMerge command base ours theirs outcome
ran_merge command base ours theirs out now outcome new ran = record { now = now; ran = subst (λ (t : TapView). IsMergeRun command base ours theirs t now outcome) new ran }

-- a run over files that were read, with a tap over standard output that was not called yet
pub ran_between : (command : Command) (sources : Sources) (out now : TapView) (outcome : Outcome) → out ≡ fresh None → IsRunOver command sources out now outcome
    → RanBetween command sources outcome
ran_between command sources out now outcome new ran = record { now = now; ran = subst (λ (t : TapView). IsRunOver command sources t now outcome) new ran }
