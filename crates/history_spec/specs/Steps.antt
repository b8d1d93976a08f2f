-- What a session keeps of its history: one file, and the label and the pieces of each step. (dialect)
use Rattle.std.specs.Prelude.{ℕ, ◌≡◌, ◌+◌, ◌<◌, ◌≤◌, ◌⊎◌, ◌&&◌, ◌==◌, not, nat_le, if◌then◌else◌, Bool, true, Option, Some, None, List, [], ◌∷◌, ◌++◌, length, sum_by, decimal}
use Rattle.std.specs.List.{AllByRecursion, flat_map, list_all}
use Rattle.bib_spec.specs.Bytes.{line_feed, space}
use Rattle.bib_spec.specs.Text.{Text}
use Rattle.bib_spec.specs.Texts.{IsOpenable}
use Rattle.bib_spec.specs.Pieces.{Piece, IsAscending, Fit, applied, reversed}
use Rattle.history_spec.specs.Composing.{composed}
use Rattle.history_spec.specs.History.{History, Edits, Amends, Undoes, Redoes}

-- ---- labels

-- the longest label, in bytes (dialect)
abbrev pub label_limit : ℕ
label_limit = 255

-- a byte of a label: no control byte of ASCII
abbrev pub is_label_byte : ℕ → Bool
is_label_byte b = nat_le 32 b && not (b == 127)

-- a text that can be the label of a step; it may be empty
pub record IsLabel (label : Text) : Type 0 where
  pub short : length label ≤ label_limit
  pub plain : list_all is_label_byte label ≡ true

-- whether the text can be the label of a step
abbrev pub is_label : Text → Bool
is_label label = nat_le (length label) label_limit && list_all is_label_byte label

-- the text as a label, if it can be one
abbrev pub label_of : Text → Option Text
label_of text = if is_label text then Some text else None

-- ---- steps

-- what one undo takes back: one edit, or several edits made as one step; its label, and the pieces of all its edits
-- together
pub record Step : Type 0 where
  pub label : Text
  pub pieces : List Piece

-- a step of one edit without a label
abbrev pub unlabelled : List Piece → Step
unlabelled pieces = record { label = []; pieces = pieces }

-- the step with the pieces of another edit after its own
abbrev pub with_edit : Step → List Piece → Step
with_edit step pieces = record { label = step.label; pieces = composed step.pieces pieces }

-- the past steps from the oldest, the present file, and the future steps from the next to be redone
pub record KeptSteps : Type 0 where
  pub past : List Step
  pub present : Text
  pub future : List Step

-- ---- the files that steps reach

-- the file before these pieces were applied
abbrev pub before : List Piece → Text → Text
before pieces file = applied (reversed pieces) file

-- the file from which the steps lead to this one
abbrev pub first_of : List Step → Text → Text
first_of [] file = file
first_of (step ∷ steps) file = before step.pieces (first_of steps file)

-- the files before each of the steps that lead to this one, from the oldest
abbrev pub files_before : List Step → Text → List Text
files_before [] file = []
files_before (step ∷ steps) file = first_of (step ∷ steps) file ∷ files_before steps file

-- the files after each of the steps that lead on from this one, from the next
abbrev pub files_after : List Step → Text → List Text
files_after [] file = []
files_after (step ∷ steps) file = applied step.pieces file ∷ files_after steps (applied step.pieces file)

-- the files that the steps reach from the present file, back and forward
abbrev pub history_of : KeptSteps → History
history_of kept = record {
  past = files_before kept.past kept.present;
  present = kept.present;
  future = files_after kept.future kept.present;
}

-- ---- steps as text

-- the three numbers in a line, then the old bytes and the new, in a line
abbrev pub piece_text : Piece → Text
piece_text p =
    decimal p.place ++ (space ∷ decimal (length p.old) ++ (space ∷ decimal (length p.new) ++ (line_feed ∷ p.old ++ (p.new ++ line_feed ∷ []))))

-- the number of pieces in a line, then the pieces
unfoldable pub pieces_text : List Piece → Text
pieces_text pieces = decimal (length pieces) ++ line_feed ∷ flat_map piece_text pieces

-- the label in a line, then the pieces
unfoldable pub step_text : Step → Text
step_text step = step.label ++ line_feed ∷ pieces_text step.pieces

-- the length of a step's text, in bytes
unfoldable pub step_text_len : Step → ℕ
step_text_len step = length (step_text step)

-- the largest number of steps that can be kept (dialect)
abbrev pub change_limit : ℕ
change_limit = 65535

-- the greatest length of the texts of all steps together, in bytes (dialect)
abbrev pub step_texts_limit : ℕ
step_texts_limit = 67174399

-- the greatest number in a step's text (dialect)
abbrev pub number_limit : ℕ
number_limit = 16777216

-- with the text of this step after those of the past steps, the texts would be too long together
abbrev pub IsOverlong : List Step → Step → Type 0
IsOverlong past step = step_texts_limit < sum_by step_text_len past + step_text_len step

-- with this step there would be too many steps to be undone, or their texts would be too long together
abbrev pub IsFull : KeptSteps → Step → Type 0
IsFull kept step = (change_limit ≤ length kept.past) ⊎ IsOverlong kept.past step

-- no number of the piece is too great to be written in a journal
pub record HasSmallNumbers (p : Piece) : Type 0 where
  pub place : p.place ≤ number_limit
  pub old : length p.old ≤ number_limit
  pub new : length p.new ≤ number_limit

-- pieces that can be written in a journal
pub record AreWritable (pieces : List Piece) : Type 0 where
  pub ascending : IsAscending pieces
  pub few : length pieces ≤ number_limit
  pub small : AllByRecursion HasSmallNumbers pieces

-- a step that can be written in a journal
pub record IsStep (step : Step) : Type 0 where
  pub label : IsLabel step.label
  pub pieces : AreWritable step.pieces

-- past and future steps that can be written together in a journal
pub record AreSteps (past future : List Step) : Type 0 where
  pub past_steps : AllByRecursion IsStep past
  pub future_steps : AllByRecursion IsStep future
  pub few : length past + length future ≤ change_limit
  pub short : sum_by step_text_len past + sum_by step_text_len future ≤ step_texts_limit

-- ---- steps that belong to a file

-- the pieces fit the file, and lead to a file that can be opened
pub record IsAllowed (pieces : List Piece) (file : Text) : Type 0 where
  pub fit : Fit pieces file
  pub made : IsOpenable (applied pieces file)

-- the pieces fit the old file and make the new one, and both can be opened
pub record Leads (pieces : List Piece) (old new : Text) : Type 0 where
  pub fit : Fit pieces old
  pub made : applied pieces old ≡ new
  pub old_is_file : IsOpenable old
  pub new_is_file : IsOpenable new

-- the steps lead to this file, one after another
abbrev pub LeadTo : List Step → Text → Type 0
LeadTo [] file = Unit {0}
LeadTo (step ∷ steps) file = Leads step.pieces (first_of (step ∷ steps) file) (first_of steps file) × LeadTo steps file

-- the steps lead on from this file, one after another
abbrev pub LeadOn : List Step → Text → Type 0
LeadOn [] file = Unit {0}
LeadOn (step ∷ steps) file = Leads step.pieces file (applied step.pieces file) × LeadOn steps (applied step.pieces file)

-- back through the past and on through the future, each step's pieces fit, and each file that they reach can be opened
pub record BelongTo (past future : List Step) (file : Text) : Type 0 where
  pub back : LeadTo past file
  pub on : LeadOn future file

-- the present file can be opened, and the steps belong to it and can be written
pub record IsSound (kept : KeptSteps) : Type 0 where
  pub present : IsOpenable kept.present
  pub belong : BelongTo kept.past kept.future kept.present
  pub steps : AreSteps kept.past kept.future

-- ---- moves

-- the step is made and put at the end of the past, and the future is emptied
pub record Adds (step : Step) (old new : KeptSteps) : Type 0 where
  pub past : new.past ≡ old.past ++ step ∷ []
  pub present : new.present ≡ applied step.pieces old.present
  pub future : new.future ≡ []

-- the pieces are made and join the last step of the past, and nothing else changes
pub record Joins (front : List Step) (step : Step) (pieces : List Piece) (old new : KeptSteps) : Type 0 where
  pub last : old.past ≡ front ++ step ∷ []
  pub past : new.past ≡ front ++ with_edit step pieces ∷ []
  pub present : new.present ≡ applied pieces old.present
  pub future : new.future ≡ old.future

-- the last step of the past is undone and moves to the front of the future
pub record GoesBack (step : Step) (old new : KeptSteps) : Type 0 where
  pub past : old.past ≡ new.past ++ step ∷ []
  pub present : new.present ≡ before step.pieces old.present
  pub future : new.future ≡ step ∷ old.future

-- the first step of the future is made again and moves to the end of the past
pub record GoesOn (step : Step) (old new : KeptSteps) : Type 0 where
  pub past : new.past ≡ old.past ++ step ∷ []
  pub present : new.present ≡ applied step.pieces old.present
  pub future : old.future ≡ step ∷ new.future

-- ---- laws

-- If there is room, adding a step with a label and allowed pieces is an edit of the history, and the kept steps are still
-- sound.
abbrev pub adding_edits : Type 0
adding_edits = (step : Step) (old new : KeptSteps) → IsSound old → IsLabel step.label → IsAllowed step.pieces old.present → ¬ IsFull old step
    → Adds step old new → IsSound new × Edits (applied step.pieces old.present) (history_of old) (history_of new)

-- If there is room and nothing can be redone, allowed pieces that join the last step amend the history, and the kept steps
-- are still sound.
abbrev pub joining_amends : Type 0
joining_amends = (front : List Step) (step : Step) (pieces : List Piece) (old new : KeptSteps) → IsSound old → old.future ≡ [] → IsAllowed pieces old.present
    → ¬ IsOverlong front (with_edit step pieces) → Joins front step pieces old new
    → IsSound new × Amends (applied pieces old.present) (history_of old) (history_of new)

-- Going back by a step is an undo of the history, and the kept steps are still sound.
abbrev pub going_back_undoes : Type 0
going_back_undoes = (step : Step) (old new : KeptSteps) → IsSound old
    → GoesBack step old new → IsSound new × Undoes (history_of old) (history_of new)

-- Going forward by a step is a redo of the history, and the kept steps are still sound.
abbrev pub going_on_redoes : Type 0
going_on_redoes = (step : Step) (old new : KeptSteps) → IsSound old
    → GoesOn step old new → IsSound new × Redoes (history_of old) (history_of new)

-- Pieces that lead from one file to another can be undone: the reversed pieces are allowed in the new file, and make the
-- old file.
abbrev pub steps_lead_back : Type 0
steps_lead_back = (pieces : List Piece) (old new : Text) → Leads pieces old new → IsAllowed (reversed pieces) new × (before pieces new ≡ old)
