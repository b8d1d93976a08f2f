-- What `diff` answers to two files. (dialect)
use Rattle.std.specs.Prelude.{◌≡◌, ◌≢◌, List, [], ◌∷◌, ◌++◌, codes, Option, Some, None}
use Rattle.bib_spec.specs.Text.{Text}
use Rattle.bib_spec.specs.Texts.{IsOpenable}
use Rattle.bib_data.specs.declared.request.Request.{Request}
use Rattle.diff_spec.specs.Agreement.{FilesAgree}
use Rattle.bib_diff.specs.Leading.{Leads, RefusesDiff}
use Rattle.bib_diff.specs.declared.fault.DiffFault.{DiffFault}
use Rattle.bib_diff.specs.declared.fault.DiffFault.TheVariants.{Old, New, NoScript, Memory}
use Rattle.script_text.specs.Saying.{Says}
use Rattle.bib_answers.specs.declared.answers.Answer.{Answer}
use Rattle.bib_answers.specs.Messages.{refusal_in}
use Rattle.bib_answers.specs.Outcome.{answer_of}

-- no script leads from the old file to the new one; the entry with this key is at fault, if one is and has a key
abbrev pub no_script_line : Option Text → Text
no_script_line None = codes "bibkeep: 46 NoScript\n"
no_script_line (Some key) = codes "bibkeep: 46 NoScript in " ++ (key ++ codes "\n")

-- why there is no script from a file with the one name to a file with the other
abbrev pub diff_line : Text → Text → DiffFault → Text
diff_line old_name new_name (Old fault) = refusal_in fault.kind fault.place old_name
diff_line old_name new_name (New fault) = refusal_in fault.kind fault.place new_name
diff_line old_name new_name (NoScript key) = no_script_line key
diff_line old_name new_name Memory = []

-- `diff OLD NEW`, for files with these names
pub data IsDiffAnswer (old_name new_name old new : Text) (answer : Answer) : Type 0 where
  -- the files agree, and nothing is printed
  agree : IsOpenable old → IsOpenable new → FilesAgree old new → answer ≡ answer_of [] [] 0 → IsDiffAnswer old_name new_name old new answer
  -- they do not agree, and a script is printed whose requests lead from the old one to the new one
  differ : (request : Request) (requests : List Request) (script : Text) → Says (request ∷ requests) script → Leads (request ∷ requests) old new → ¬ FilesAgree old new
      → answer ≡ answer_of script [] 1 → IsDiffAnswer old_name new_name old new answer
  -- nothing is printed, and the message says why: a file can't be opened; or no script was found, where both can be opened and do not agree
  refused : (fault : DiffFault) → fault ≢ Memory → RefusesDiff fault old new → answer ≡ answer_of [] (diff_line old_name new_name fault) 1 → IsDiffAnswer old_name new_name old new answer
