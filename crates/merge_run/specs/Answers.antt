-- What `merge` answers to a common file, ours and theirs. (dialect)
use Rattle.std.specs.Prelude.{ℕ, ◌≡◌, ◌≢◌, Bool, if◌then◌else◌, List, [], ◌∷◌, Some, None, slice_index_or, codes}
use Rattle.bib_spec.specs.Text.{Text}
use Rattle.merge_spec.specs.Conflicts.{Conflict}
use Rattle.bib_renames.specs.declared.conflict.KeyConflict.{KeyConflict}
use Rattle.bib_uses.specs.declared.losing.LostUse.{LostUse}
use Rattle.bib_merge.specs.declared.fault.MergeFault.{MergeFault}
use Rattle.bib_merge.specs.declared.fault.MergeFault.TheVariants.{Base, Ours, Theirs, Memory, TextTooLong, FileTooLong, WouldMerge}
use Rattle.bib_merge.specs.Merges.{IsMergeOfFiles, IsMergeFault}
use Rattle.bib_answers.specs.declared.answers.Answer.{Answer}
use Rattle.bib_answers.specs.Outcome.{answer_of}
use Rattle.bib_answers.specs.Messages.{too_long_line, refusal_in}
use Rattle.merge_run.specs.Lines.{told_lines}

-- the status is 1 if each side gave an entry another key, or there is a conflict, or an entry has lost its parent, or a use of a macro
-- its meaning
abbrev pub merged_status : List KeyConflict → List Conflict → List Text → List LostUse → ℕ
merged_status [] [] [] [] = 0
merged_status [] [] [] (u ∷ uses) = 1
merged_status [] [] (key ∷ lost) uses = 1
merged_status [] (conflict ∷ conflicts) lost uses = 1
merged_status (key ∷ keys) conflicts lost uses = 1

-- the answer that has the merged file: the lines of the conflicts are the output, and the file is to be stored; with `print` the file is
-- the output, the lines are the message, and nothing is stored
abbrev pub merged_answer : Bool → Text → List KeyConflict → List Conflict → List Text → List LostUse → Answer
merged_answer print text keys conflicts lost uses =
    if print then answer_of text (told_lines keys conflicts lost uses) (merged_status keys conflicts lost uses)
    else record { output = told_lines keys conflicts lost uses; outcome = record { file = Some text; journal = None; message = []; status = merged_status keys conflicts lost uses } }

-- why files with these names are not merged, a line
abbrev pub fault_line : List Text → MergeFault → Text
fault_line names (Base fault) = refusal_in fault.kind fault.place (slice_index_or names 0 [])
fault_line names (Ours fault) = refusal_in fault.kind fault.place (slice_index_or names 1 [])
fault_line names (Theirs fault) = refusal_in fault.kind fault.place (slice_index_or names 2 [])
fault_line names Memory = []
fault_line names TextTooLong = codes "bibkeep: 8 TextTooLong\n"
fault_line names FileTooLong = too_long_line
fault_line names WouldMerge = codes "bibkeep: 40 WouldMerge\n"

-- the answer of `merge` to files with these names and bytes: a merge of the three after renamings, which is a file that opens, and its
-- conflicts; or why there is no merge
pub data IsMergeAnswer (print : Bool) (names : List Text) (base ours theirs : Text) (answer : Answer) : Type 0 where
  merged : (text : Text) (keys : List KeyConflict) (conflicts : List Conflict) (lost : List Text) (uses : List LostUse) → IsMergeOfFiles base ours theirs text keys conflicts lost uses
      → answer ≡ merged_answer print text keys conflicts lost uses → IsMergeAnswer print names base ours theirs answer
  unmerged : (fault : MergeFault) → fault ≢ Memory → IsMergeFault base ours theirs fault → answer ≡ answer_of [] (fault_line names fault) 1
      → IsMergeAnswer print names base ours theirs answer
