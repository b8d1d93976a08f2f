-- What the program tells at its end.
use Rattle.std.specs.Prelude.{ℕ, ◌≡◌, ◌≢◌, ◌++◌, Bool, true, false, codes, Option}
use Rattle.bib_spec.specs.Text.{Text}
use Rattle.bib_answers.specs.declared.answers.Outcome.{Outcome}
use Rattle.bib_run.specs.Transfers.{Tells}
use Rattle.bib_taps.specs.Taps.{tap_inner, has_failed}
use Rattle.bibkeep.specs.declared.endings.Messages.{Messages}
use Rattle.bibkeep.specs.Ending.{leaves_some}

-- what the writer of messages holds, if `contents` tells that
abbrev pub text_in : {E : Type 0} → (E → Option Text) → Messages E → Option Text
text_in contents messages = contents (tap_inner messages.tap)

-- a call on the writer of messages failed
abbrev pub is_at_fault : {E : Type 0} → Messages E → Bool
is_at_fault messages = has_failed messages.tap

-- a message about the file at this path
abbrev pub in_file : Text → Text → Text
in_file text path = (text ++ codes " in ") ++ (path ++ codes "\n")

-- What is told of a run with this outcome: its message, or that memory ran out. With status 3 it is nothing if the reader of the output
-- was gone before its end.
pub record TellsOf (outcome : Outcome) (is_closed : Bool) (before after : Option Text) (failed : Bool) : Type 0 where
  pub memory : outcome.status ≡ 4 → Tells before after (codes "bibkeep: 10 Memory\n") failed
  pub heard : is_closed ≡ false → outcome.status ≢ 4 → Tells before after outcome.message failed
  pub answered : outcome.status ≢ 3 → outcome.status ≢ 4 → Tells before after outcome.message failed
  pub silent : is_closed ≡ true → outcome.status ≡ 3 → after ≡ before

-- What is told of a run with this outcome that ends with this status: what is told of the outcome; and after that, if the outcome leaves
-- something that was not stored, that it was not.
pub data TellsEnd (outcome : Outcome) (is_closed : Bool) (status : ℕ) (before after : Option Text) (failed : Bool) : Type 0 where
  ended : status ≡ outcome.status → TellsOf outcome is_closed before after failed → TellsEnd outcome is_closed status before after failed
  unstored : leaves_some outcome ≡ true → status ≡ 3 → (between : Option Text) (failed_between : Bool) → TellsOf outcome is_closed before between failed_between
      → Tells between after (codes "bibkeep: write fault\n") failed → TellsEnd outcome is_closed status before after failed
