-- Steps of several edits: which step is open, and what an edit does then. (dialect)
use Rattle.std.specs.Prelude.{◌≡◌, ◌≢◌, List, [], ◌∷◌, ◌++◌}
use Rattle.bib_spec.specs.Text.{Text}
use Rattle.bib_spec.specs.Pieces.{Piece}
use Rattle.history_spec.specs.History.{History, Edits, Amends}
use Rattle.history_spec.specs.Steps.{Step, KeptSteps, IsLabel, with_edit, IsFull, IsOverlong, Adds, Joins}
use Rattle.bib_journal.specs.declared.open_step.OpenStep.{OpenStep}
use Rattle.bib_journal.specs.declared.open_step.OpenStep.TheVariants.{NoStep, NewStep, LastStep}

-- a session at one moment: the steps that it keeps, and which step is open
pub record SessionState : Type 0 where
  pub steps : KeptSteps
  pub current : OpenStep

-- a session that keeps these steps and has none open
abbrev pub idle : KeptSteps → SessionState
idle steps = record { steps = steps; current = NoStep }

-- what is known of the step that is open: a new one has a label that is one; one with edits is the last of the past, and
-- nothing can be redone
abbrev pub IsOpenIn : KeptSteps → OpenStep → Type 0
IsOpenIn steps NoStep = Unit {0}
IsOpenIn steps (NewStep label) = IsLabel label
IsOpenIn steps LastStep = (steps.past ≢ []) × (steps.future ≡ [])

-- ---- edits

-- the label of the step that the next edit begins
abbrev pub next_label : OpenStep → Text
next_label NoStep = []
next_label (NewStep label) = label
next_label LastStep = []

-- which step is open after an edit: one that was opened is the last of the past, from its first edit on
abbrev pub after_edit : OpenStep → OpenStep
after_edit NoStep = NoStep
after_edit (NewStep label) = LastStep
after_edit LastStep = LastStep

-- the step that the next edit begins, if it has these pieces
abbrev pub new_step : OpenStep → List Piece → Step
new_step current pieces = record { label = next_label current; pieces = pieces }

-- the pieces join the last step of the past
abbrev pub JoinsLast : List Piece → KeptSteps → KeptSteps → Type 0
JoinsLast pieces old new = (front : List Step) × (step : Step) × Joins front step pieces old new

-- after the steps before the last, the text of the last one with these pieces would be too long
abbrev pub LastIsOverlong : List Piece → KeptSteps → Type 0
LastIsOverlong pieces kept = (front : List Step) × (step : Step) × (kept.past ≡ front ++ step ∷ []) × IsOverlong front (with_edit step pieces)

-- where this step is open, an edit with these pieces makes the new steps of the old
abbrev pub MakesSteps : OpenStep → List Piece → KeptSteps → KeptSteps → Type 0
MakesSteps NoStep pieces old new = Adds (new_step NoStep pieces) old new
MakesSteps (NewStep label) pieces old new = Adds (new_step (NewStep label) pieces) old new
MakesSteps LastStep pieces old new = JoinsLast pieces old new

-- there is no room for an edit with these pieces
abbrev pub LacksRoom : OpenStep → List Piece → KeptSteps → Type 0
LacksRoom NoStep pieces kept = IsFull kept (new_step NoStep pieces)
LacksRoom (NewStep label) pieces kept = IsFull kept (new_step (NewStep label) pieces)
LacksRoom LastStep pieces kept = LastIsOverlong pieces kept

-- an edit that makes this file moves the history so: the first edit of a step as an edit by itself, and a later one leaves the past
abbrev pub MovesTo : OpenStep → Text → History → History → Type 0
MovesTo NoStep file old new = Edits file old new
MovesTo (NewStep label) file old new = Edits file old new
MovesTo LastStep file old new = Amends file old new
