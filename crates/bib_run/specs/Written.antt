-- How an answer is written to its output. (dialect)
use Rattle.std.specs.Prelude.{◌≡◌, true, false, []}
use Rattle.std.specs.Io.KnownBytes.{Appends}
use Rattle.bib_answers.specs.declared.answers.Outcome.{Outcome}
use Rattle.bib_answers.specs.declared.answers.Answer.{Answer}
use Rattle.bib_answers.specs.Outcome.{outcome_of}
use Rattle.bib_run.specs.Messages.{write_fault_line}
use Rattle.bib_run.specs.Transfers.{WritesPrefix}
use Rattle.bib_run.specs.Views.{TapView}

-- the outcome of a run whose answer was made, and the tap of its output before and after
pub data IsWritten (answer : Answer) (old new : TapView) (outcome : Outcome) : Type 0 where
  -- no call failed, and the answer's output was written whole
  whole : Appends old.bytes new.bytes answer.output → new.failed ≡ old.failed → outcome ≡ answer.outcome → IsWritten answer old new outcome
  -- a call failed, and a prefix of the answer's output was written
  write_fault : WritesPrefix old.bytes new.bytes answer.output false → new.failed ≡ true → outcome ≡ outcome_of write_fault_line 3
      → IsWritten answer old new outcome
  -- nothing was written
  no_memory : new ≡ old → outcome ≡ outcome_of [] 4 → IsWritten answer old new outcome
