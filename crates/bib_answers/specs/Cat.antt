-- `cat`: the file's bytes.
use Rattle.std.specs.Prelude.{◌≢◌, ◌≤◌, ℕ, [], length}
use Rattle.bib_spec.specs.Bytes.{file_limit}
use Rattle.bib_spec.specs.Text.{Text}
use Rattle.bib_spec.specs.Reading.{HasReading}
use Rattle.bib_spec.specs.Fault.{IsReadFault}
use Rattle.bib_answers.specs.declared.answers.Answer.{Answer}
use Rattle.bib_answers.specs.Messages.{refusal_line}
use Rattle.bib_answers.specs.Outcome.{answer_of}

-- `cat`: the file again; or, with nothing written, why it is not valid (dialect)
pub data IsCatAnswer (file : Text) : Answer → Type 0 where
  copied : length file ≤ file_limit → HasReading file → IsCatAnswer file (answer_of file [] 0)
  refused : (kind place : ℕ) → kind ≢ 10 → IsReadFault file kind place → IsCatAnswer file (answer_of [] (refusal_line kind place) 1)
