-- Answers to a file that is open, and answers that say why a file is not read.
use Rattle.bib_answers.proofs.Words.{◌≡◌, ◌≢◌, ℕ, [], subst, sym, Text, Reading, IsReadFault, OfReading, answer_of}
use Rattle.bib_spec.specs.Texts.{IsOpenable}
use Rattle.bib_store.specs.Readings.{IsOpenFault}
use Rattle.bib_answers.specs.declared.answers.Answer.{Answer}
use Rattle.bib_answers.specs.Messages.{refusal_line}
use Rattle.bib_answers.specs.Opened as opening
use Rattle.bib_answers.specs.Opened.{AnswersFile}
use Rattle.bib_answers.specs.Cat as cat
use Rattle.bib_answers.specs.Cat.{IsCatAnswer}

-- the answer says so, and not for want of memory
abbrev pub IsRefusal : ℕ → ℕ → Answer → Type 0
IsRefusal kind place answer = (kind ≢ 10) × (answer ≡ answer_of [] (refusal_line kind place) 1)

pub cat_refused : (file : Text) (kind place : ℕ) (answer : Answer) → IsReadFault file kind place → IsRefusal kind place answer → IsCatAnswer file answer
cat_refused file kind place answer why is = subst (IsCatAnswer file) (sym is.1) (cat.refused kind place is.0 why)

pub file_refused : (answers : Reading → Answer) (file : Text) (kind place : ℕ) (answer : Answer) → IsOpenFault file kind place → IsRefusal kind place answer → AnswersFile answers file answer
file_refused answers file kind place answer why is = opening.refused kind place is.0 why is.1

-- what is answered to what an open file says is the answer to the file
pub file_answered : (answers : Reading → Answer) (file now : Text) (answer : Answer) → now ≡ file → IsOpenable file → OfReading now (λ r. answer ≡ answers r) → AnswersFile answers file answer
file_answered answers file now answer same is given =
    opening.opened is.0 is.1 (subst (λ (t : Text). OfReading t (λ r. answer ≡ answers r)) same given is.0 is.1.reads)
