-- `undo` and `redo`: changes taken back, and made again. (dialect)
use Rattle.std.specs.Prelude.{ℕ, ◌≡◌, ◌++◌, Option, option_map, codes}
use Rattle.std.specs.Fmt.{decimal}
use Rattle.bib_spec.specs.Text.{Text}
use Rattle.bib_data.specs.declared.request.Request.{Request}
use Rattle.bib_journal.specs.declared.changing.Turned.{Turned}
use Rattle.bib_journal.specs.Turns.{Turns}
use Rattle.bib_answers.specs.declared.answers.Answer.{Answer}
use Rattle.bib_run.specs.Sessions.{IsUnopenedAnswer, fault_line, outcome_after}

-- a line with the word and the number of changes
abbrev pub turned_line : Text → ℕ → Text
turned_line word done = word ++ (codes " " ++ (decimal done ++ codes "\n"))

-- The answer after changes were taken back or made again: how many; the fault of the next one, if there was one; and the file and
-- the journal.
abbrev pub turned_answer : Text → Turned → Answer
turned_answer word turned = record {
  output = turned_line word turned.performed.done;
  outcome = outcome_after turned.performed.done (option_map fault_line turned.performed.fault) turned.saved;
}

-- `undo F` and `redo F`: the request is done `n` times, up to the first refusal; or, with nothing done, why the file and its
-- journal cannot be opened.
pub data IsTurnAnswer (word : Text) (request : Request) (n : ℕ) (file : Text) (journal : Option Text) (answer : Answer) : Type 0 where
  turned : (turned : Turned) → Turns request n file journal turned → answer ≡ turned_answer word turned → IsTurnAnswer word request n file journal answer
  unopened : IsUnopenedAnswer file journal answer → IsTurnAnswer word request n file journal answer
