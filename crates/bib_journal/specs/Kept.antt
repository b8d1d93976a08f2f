-- What a session keeps.
use Rattle.std.specs.Prelude.{ℕ, ◌≡◌, ◌⊎◌, List, [], ◌∷◌, ◌++◌, sum_by}
use Rattle.bib_spec.specs.Text.{Text}
use Rattle.history_spec.specs.Composing.{AreEnds}
use Rattle.history_spec.specs.Steps.{Step, KeptSteps, IsSound, step_text_len}
use Rattle.bib_journal.specs.OpenSteps.{SessionState, IsOpenIn}
use Rattle.bib_journal.specs.declared.open_step.OpenStep.{OpenStep}
use Rattle.bib_journal.specs.declared.open_step.OpenStep.TheVariants.{NoStep, NewStep, LastStep}

-- what a session keeps, from its fields: the past steps, the present file, and the future steps
abbrev pub kept : List Step → Text → List Step → KeptSteps
kept past present future = record { past = past; present = present; future = future }

-- while a step with edits is open, there are no places, or those where its pieces end, no two of which touch
abbrev pub KnowsEnds : OpenStep → List Step → List ℕ → Type 0
KnowsEnds NoStep past ends = Unit {0}
KnowsEnds (NewStep label) past ends = Unit {0}
KnowsEnds LastStep past ends = (front : List Step) (step : Step) → past ≡ front ++ step ∷ [] → (ends ≡ []) ⊎ AreEnds step.pieces ends

-- the steps are sound, the step that is open is one of them or has a label, the length of the past steps' texts is kept beside
-- them, and so are the places where the pieces of the step that is open end
pub record IsKept (state : SessionState) (past_len : ℕ) (ends : List ℕ) : Type 0 where
  pub sound : IsSound state.steps
  pub current : IsOpenIn state.steps state.current
  pub counted : past_len ≡ sum_by step_text_len state.steps.past
  pub placed : KnowsEnds state.current state.steps.past ends
