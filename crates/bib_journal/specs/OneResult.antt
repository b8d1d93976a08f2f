-- What a session answers is determined. (dialect)
use Rattle.std.specs.Prelude.{ℕ, ◌≡◌, ◌≢◌, List, Option, Some}
use Rattle.history_spec.specs.Steps.{IsSound}
use Rattle.bib_data.specs.declared.request.Request.{Request}
use Rattle.bib_journal.specs.declared.fault.SessionFault.{SessionFault}
use Rattle.bib_journal.specs.declared.fault.SessionFault.TheVariants.{Memory}
use Rattle.bib_journal.specs.OpenSteps.{SessionState, IsOpenIn}
use Rattle.bib_journal.specs.Session.{Performs}

-- what is kept is sound, and what is known of the step that is open holds of it
abbrev pub IsGood : SessionState → Type 0
IsGood state = IsSound state.steps × IsOpenIn state.steps state.current

-- How many requests are accepted, why the next one is refused, and what is kept then is determined by the requests and by what was
-- kept before, unless memory is refused.
abbrev pub one_result : Type 0
one_result = (requests : List Request) (done other : ℕ) (fault fault' : Option SessionFault) (old new new' : SessionState) → IsGood old → fault ≢ Some Memory → fault' ≢ Some Memory
    → Performs requests done fault old new → Performs requests other fault' old new' → (done ≡ other) × (fault ≡ fault') × (new ≡ new')
