-- A change as a step: in the step that is open, or as a step of its own. (dialect)
use Rattle.std.specs.Prelude.{◌≡◌, ◌⊎◌, List}
use Rattle.bib_spec.specs.Text.{Text}
use Rattle.bib_data.specs.declared.request.Request.{Request}
use Rattle.bib_journal.specs.OpenSteps.{SessionState, idle}
use Rattle.bib_journal.specs.Session.{Does, Refuses}
use Rattle.bib_journal.specs.declared.fault.SessionFault.{SessionFault}
use Rattle.bib_journal.specs.declared.fault.SessionFault.TheVariants.{Memory}
use Rattle.bib_journal.specs.declared.open_step.OpenStep.{OpenStep}
use Rattle.bib_journal.specs.declared.open_step.OpenStep.TheVariants.{NoStep, NewStep, LastStep}
use Rattle.bib_script.specs.Words.{step_of}

-- ---- one change

-- the step that is open, or one that is begun with this label where none is
abbrev pub begun : Text → OpenStep → OpenStep
begun label NoStep = NewStep label
begun label (NewStep word) = NewStep word
begun label LastStep = LastStep

-- the session when the change comes
abbrev pub begun_in : Text → SessionState → SessionState
begun_in label state = record { steps = state.steps; current = begun label state.current }

-- the session after the change: a step that was begun for it is ended again, and one that was open before stays so
abbrev pub left_by : OpenStep → SessionState → SessionState
left_by NoStep made = idle made.steps
left_by (NewStep word) made = made
left_by LastStep made = made

-- The request is done in the step that is open, or else as a step of its own with this label, after which none is open.
pub record MakesStep (label : Text) (change : Request) (old new : SessionState) : Type 0 where
  pub made : SessionState
  pub did : Does change (begun_in label old) made
  pub left : new ≡ left_by old.current made

-- why no step is made: its request is refused, or memory was
abbrev pub RefusesStep : SessionFault → Text → Request → SessionState → Type 0
RefusesStep reason label change old = Refuses reason change (begun_in label old) ⊎ (reason ≡ Memory)

-- the request is done, and then no step is open
pub record IsMade (change : Request) (old new : SessionState) : Type 0 where
  pub made : SessionState
  pub did : Does change old made
  pub left : new ≡ idle made.steps

-- ---- the requests of one change

-- these requests ask for the step of one change
pub record AsksStep (requests : List Request) : Type 0 where
  pub label : Text
  pub change : Request
  pub asked : requests ≡ step_of label change

-- the step for which the requests ask is made
pub record MakesAsked (requests : List Request) (old new : SessionState) : Type 0 where
  pub label : Text
  pub change : Request
  pub asked : requests ≡ step_of label change
  pub step : MakesStep label change old new

-- why the step for which the requests ask is not made
pub record RefusesAsked (requests : List Request) (reason : SessionFault) (old : SessionState) : Type 0 where
  pub label : Text
  pub change : Request
  pub asked : requests ≡ step_of label change
  pub refused : RefusesStep reason label change old
