-- The answers of commands that open a session, and of commands that read standard input too. (dialect)
use Rattle.std.specs.Prelude.{◌≡◌, ◌<◌, ◌≤◌, Bool, [], length, Option}
use Rattle.bib_spec.specs.Bytes.{file_limit}
use Rattle.bib_spec.specs.Text.{Text}
use Rattle.bib_journal.specs.OpenSteps.{SessionState}
use Rattle.bib_answers.specs.declared.answers.Answer.{Answer}
use Rattle.bib_answers.specs.Messages.{refusal_line}
use Rattle.bib_answers.specs.Outcome.{answer_of}
use Rattle.bib_run.specs.Sessions.{IsUnopenedAnswer, OpensWith, judged_journal}

-- the answer of the session that is opened; or, with nothing done, why the file and its journal cannot be opened
pub data AnswersSession (new_journal : Bool) (answers : SessionState → Answer → Type 0) (file : Text) (journal : Option Text) (answer : Answer) : Type 0 where
  answered : (opened : SessionState) → OpensWith new_journal file journal opened → answers opened answer → AnswersSession new_journal answers file journal answer
  unopened : IsUnopenedAnswer file (judged_journal new_journal journal) answer → AnswersSession new_journal answers file journal answer

-- the answer of a session to an input; or, with nothing done, that the input is too long
pub data AnswersInput (answers : Text → SessionState → Answer → Type 0) (input : Text) (opened : SessionState) (answer : Answer) : Type 0 where
  within : length input ≤ file_limit → answers input opened answer → AnswersInput answers input opened answer
  too_long : file_limit < length input → answer ≡ answer_of [] (refusal_line 9 file_limit) 1 → AnswersInput answers input opened answer
