-- The parts of an answer.
use Rattle.std.specs.Prelude.{ℕ, None}
use Rattle.bib_spec.specs.Text.{Text}
use Rattle.bib_answers.specs.declared.answers.Outcome.{Outcome}
use Rattle.bib_answers.specs.declared.answers.Answer.{Answer}

-- an outcome that leaves no file and no journal to be written
abbrev pub outcome_of : Text → ℕ → Outcome
outcome_of message status = record { file = None; journal = None; message = message; status = status }

-- an answer with such an outcome
abbrev pub answer_of : Text → Text → ℕ → Answer
answer_of output message status = record { output = output; outcome = outcome_of message status }
