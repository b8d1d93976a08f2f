-- Answers to a file that can be opened.
use Rattle.std.specs.Prelude.{◌≡◌, ◌≢◌, ℕ, [], Result, IfOk}
use Rattle.std.specs.Borrow.{Bor}
use Rattle.std.specs.Fn.{Once, FnOnceReturns}
use Rattle.bib_spec.specs.Text.{Text}
use Rattle.bib_spec.specs.Reading.{Reading}
use Rattle.bib_spec.specs.Texts.{Opens}
use Rattle.bib_store.specs.Readings.{IsOpenFault, OfReading}
use Rattle.bib_answers.specs.declared.answers.Answer.{Answer}
use Rattle.bib_answers.specs.Messages.{refusal_line}
use Rattle.bib_answers.specs.Outcome.{answer_of}

-- the answer to what the file says; or, with nothing written, why it cannot be opened (dialect)
pub data AnswersFile (answers : Reading → Answer) (file : Text) (answer : Answer) : Type 0 where
  opened : (db : Reading) → Opens file db → answer ≡ answers db → AnswersFile answers file answer
  refused : (kind place : ℕ) → kind ≢ 10 → IsOpenFault file kind place → answer ≡ answer_of [] (refusal_line kind place) 1
      → AnswersFile answers file answer

-- what the function answers to an open file is what `answers` makes of its reading
abbrev pub AnswersReading : {F E : Type 0} → Once F (Bor Text × Unit {0}) (Result Answer E) → F → (Reading → Answer) → Type 0
AnswersReading {F} {E} calls f answers =
    (file : Bor Text) (given : Result Answer E) → FnOnceReturns calls f (file, tt) given → IfOk given (λ answer. OfReading file.now (λ r. answer ≡ answers r))
