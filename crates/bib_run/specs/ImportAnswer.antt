-- `import`: what a RIS text adds to a file. (dialect)
use Rattle.std.specs.Prelude.{ℕ, Bool, ◌≡◌, ◌≢◌, if◌then◌else◌, List, [], ◌++◌, length, map, Option, None, codes}
use Rattle.std.specs.List.{flat_map}
use Rattle.std.specs.Fmt.{decimal}
use Rattle.bib_spec.specs.Text.{Text}
use Rattle.bib_journal.specs.OpenSteps.{SessionState}
use Rattle.bib_data.specs.declared.edit.Edit.TheVariants.{AddMany}
use Rattle.bib_journal.specs.declared.fault.SessionFault.{SessionFault}
use Rattle.bib_journal.specs.declared.fault.SessionFault.TheVariants.{Memory}
use Rattle.bib_journal.specs.declared.saving.Saved.{Saved}
use Rattle.bib_journal.specs.Loading.{Saves}
use Rattle.bib_journal.specs.Session.{MakesEdit, RefusesEdit}
use Rattle.ris_text.specs.declared.fault.RisFault.{RisFault}
use Rattle.ris_text.specs.declared.fault.RisFault.TheVariants as ris_fault
use Rattle.bib_ris.specs.declared.fault.ImportFault.{ImportFault}
use Rattle.bib_ris.specs.declared.fault.ImportFault.TheVariants as import_fault
use Rattle.bib_ris.specs.declared.importing.Additions.{Additions}
use Rattle.ris_text.specs.Lines.{Line}
use Rattle.ris_text.specs.Skipped.{Standing, standing, AreSkipped}
use Rattle.bib_ris.specs.Import.{AreAdditions, RefusesImport}
use Rattle.bib_words.specs.declared.commands.Command.{Command}
use Rattle.bib_answers.specs.declared.answers.Answer.{Answer}
use Rattle.bib_answers.specs.Messages.{placed_line}
use Rattle.bib_answers.specs.Outcome.{answer_of}
use Rattle.bib_run.specs.Sessions.{fault_line, outcome_after}
use Rattle.bib_run.specs.Inputs.{AnswersSession, AnswersInput}

-- ---- messages

-- the line `added N skipped M`: how many entries were added, and how many lines of the text were skipped
abbrev pub added_line : ℕ → ℕ → Text
added_line added skipped = codes "added " ++ (decimal added ++ (codes " skipped " ++ (decimal skipped ++ codes "\n")))

-- a line that says why a RIS text is not read
abbrev pub unread_line : RisFault → Text
unread_line (ris_fault.NoStart place) = placed_line 61 (codes "NoStart") place
unread_line (ris_fault.NoEnd place) = placed_line 62 (codes "NoEnd") place
unread_line (ris_fault.EmptyType place) = placed_line 63 (codes "EmptyType") place
unread_line ris_fault.Memory = codes "bibkeep: 10 Memory\n"

-- a line that says why a RIS text gives no entries
abbrev pub import_fault_line : ImportFault → Text
import_fault_line (import_fault.Unread fault) = unread_line fault
import_fault_line import_fault.UnbalancedText = codes "bibkeep: 64 UnbalancedText\n"
import_fault_line (import_fault.SkippedLine place) = placed_line 65 (codes "SkippedLine") place
import_fault_line import_fault.Memory = codes "bibkeep: 10 Memory\n"

-- ---- what is printed

-- the line `skipped N: LINE`: a line as it stands in the text, with its number, from 1
abbrev pub skipped_line : Standing → Text
skipped_line line = codes "skipped " ++ (decimal line.number ++ (codes ": " ++ (line.bytes ++ codes "\n")))

-- such a line for each of these lines of the text
abbrev pub skipped_lines : Text → List Line → Text
skipped_lines text lines = flat_map skipped_line (map (standing text) lines)

-- what is printed of these additions of the text: how many entries and skipped lines there are, and if `listed` the skipped lines
abbrev pub import_told : Bool → Additions → Text → List Line → Text
import_told listed a text lines = added_line (length a.entries) a.skipped ++ (if listed then skipped_lines text lines else [])

-- ---- answers

-- the answer that prints this, when `saved` is the file and the journal
abbrev pub added_answer : Text → Saved → Answer
added_answer told saved = record { output = told; outcome = outcome_after 1 None saved }

-- The answer of a session to entries: they are added all at once, as one step, and this is printed; or why they cannot be added.
pub data HasAdded (a : Additions) (told : Text) (opened : SessionState) (answer : Answer) : Type 0 where
  added : (closed : SessionState) (saved : Saved) → MakesEdit (AddMany a.entries) opened closed → Saves closed.steps saved → answer ≡ added_answer told saved
      → HasAdded a told opened answer
  refused : (fault : SessionFault) → fault ≢ Memory → RefusesEdit fault (AddMany a.entries) opened → answer ≡ answer_of [] (fault_line fault) 1 → HasAdded a told opened answer

-- The answer of a session to a RIS text: its entries are added, with texts as they are or with `--latex` as LaTeX prints them, and with
-- `--skipped` the lines are listed that are skipped; or why the text gives no entries, with `--strict` also if a line is skipped.
pub data HasImported (command : Command) (text : Text) (opened : SessionState) (answer : Answer) : Type 0 where
  read : (a : Additions) → AreAdditions command.latex command.strict opened.steps.present text a → (lines : List Line) → AreSkipped text lines
      → HasAdded a (import_told command.skipped a text lines) opened answer → HasImported command text opened answer
  unread : (fault : ImportFault) → fault ≢ import_fault.Memory → RefusesImport command.latex command.strict fault text → answer ≡ answer_of [] (import_fault_line fault) 1
      → HasImported command text opened answer

-- `import F`: the records of the text are added to the file as entries
abbrev pub IsImportAnswer : Command → Text → Option Text → Text → Answer → Type 0
IsImportAnswer command file journal input = AnswersSession command.new_journal (AnswersInput (HasImported command) input) file journal
