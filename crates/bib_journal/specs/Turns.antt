-- Changes of a file with its journal that are taken back or made again, where no session stays open. (dialect)
use Rattle.std.specs.Prelude.{ℕ, ◌-◌, ◌≢◌, ◌++◌, length, take, drop, Option, Some, replicate}
use Rattle.bib_spec.specs.Text.{Text}
use Rattle.history_spec.specs.Steps.{KeptSteps, first_of}
use Rattle.bib_data.specs.declared.request.Request.{Request}
use Rattle.bib_journal.specs.declared.fault.SessionFault.TheVariants.{Memory}
use Rattle.bib_journal.specs.declared.changing.Turned.{Turned}
use Rattle.bib_journal.specs.Kept.{kept}
use Rattle.bib_journal.specs.OpenSteps.{SessionState, idle}
use Rattle.bib_journal.specs.Loading.{Saves}
use Rattle.bib_journal.specs.Session.{Opens, Performs}

-- a session that keeps these steps does the request `n` times, up to the first refusal, and leaves what it keeps then
pub record HasTurned (request : Request) (n : ℕ) (opened : SessionState) (turned : Turned) : Type 0 where
  pub closed : SessionState
  pub told : turned.performed.fault ≢ Some Memory
  pub performs : Performs (replicate n request) turned.performed.done turned.performed.fault opened closed
  pub saves : Saves closed.steps turned.saved

-- the same of the session that is opened from the file and its journal
pub record Turns (request : Request) (n : ℕ) (file : Text) (journal : Option Text) (turned : Turned) : Type 0 where
  pub opened : KeptSteps
  pub opens : Opens file journal opened
  pub has_turned : HasTurned request n (idle opened) turned

-- what is kept after the last n changes were taken back
abbrev pub taken_back : ℕ → KeptSteps → KeptSteps
taken_back n steps =
    let first = length steps.past - n in
    kept (take first steps.past) (first_of (drop first steps.past) steps.present) (drop first steps.past ++ steps.future)
