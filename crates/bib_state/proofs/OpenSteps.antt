-- What is done in a step that is open.
use Rattle.std.proofs.Common.{◌≢◌, refl}
use Rattle.bib_spec.specs.Text.{Text}
use Rattle.history_spec.specs.Steps.{KeptSteps}
use Rattle.bib_data.specs.declared.request.Request.{Request}
use Rattle.bib_journal.specs.OpenSteps.{SessionState}
use Rattle.bib_journal.specs.Session.{Does}
use Rattle.bib_journal.specs.declared.open_step.OpenStep.{OpenStep}
use Rattle.bib_journal.specs.declared.open_step.OpenStep.TheVariants.{NoStep, NewStep, LastStep}
use Rattle.bib_state.specs.Steps.{MakesStep}

-- what is done in a step that is open is done as a step
pub open_makes : (label : Text) (change : Request) (steps : KeptSteps) (current : OpenStep) (new : SessionState) → current ≢ NoStep
    → Does change (record { steps = steps; current = current }) new → MakesStep label change (record { steps = steps; current = current }) new
open_makes label change steps NoStep new some did = absurd (some refl)
open_makes label change steps (NewStep word) new some did = record { made = new; did = did; left = refl }
open_makes label change steps LastStep new some did = record { made = new; did = did; left = refl }
