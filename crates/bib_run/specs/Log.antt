-- `log`: the changes that can be undone and redone. `forget`: a new journal. (dialect)
use Rattle.std.specs.Prelude.{ℕ, ◌≡◌, List, [], ◌∷◌, ◌++◌, length, sum_by, Option, Some, None, codes}
use Rattle.std.specs.Fmt.{decimal}
use Rattle.std.specs.List.{flat_map}
use Rattle.bib_spec.specs.Text.{Text}
use Rattle.bib_spec.specs.Pieces.{Piece}
use Rattle.history_spec.specs.Steps.{Step, KeptSteps}
use Rattle.bib_spec.specs.Texts.{IsOpenable}
use Rattle.bib_journal.specs.declared.saving.Saved.{Saved}
use Rattle.bib_journal.specs.Loading.{Saves}
use Rattle.bib_journal.specs.Session.{started, Opens}
use Rattle.bib_answers.specs.declared.answers.Outcome.{Outcome}
use Rattle.bib_answers.specs.declared.answers.Answer.{Answer}
use Rattle.bib_run.specs.Sessions.{IsUnopenedAnswer}
use Rattle.bib_answers.specs.Outcome.{answer_of}

-- how many bytes pieces take away
abbrev pub old_len : List Piece → ℕ
old_len pieces = sum_by (λ p. length p.old) pieces

-- how many bytes pieces put in
abbrev pub new_len : List Piece → ℕ
new_len pieces = sum_by (λ p. length p.new) pieces

-- a space and the label, or nothing if the label is empty
abbrev pub label_part : Text → Text
label_part [] = []
label_part (b ∷ label) = codes " " ++ (b ∷ label)

-- the word, and how many pieces there are, how many bytes they take away, and how many they put in
abbrev pub counts_part : Text → List Piece → Text
counts_part word pieces =
    word ++ (codes " " ++ (decimal (length pieces) ++ (codes " " ++ (decimal (old_len pieces) ++ (codes " " ++ decimal (new_len pieces))))))

-- the line of a step: the word, how many pieces it has, how many bytes it takes away and puts in, and its label
abbrev pub step_line : Text → Step → Text
step_line word step = counts_part word step.pieces ++ (label_part step.label ++ codes "\n")

-- a line for each past step from the oldest, and then for each future step from the next
abbrev pub log_text : KeptSteps → Text
log_text kept = flat_map (step_line (codes "done")) kept.past ++ flat_map (step_line (codes "undone")) kept.future

-- `log F`: the steps that the journal keeps
pub data IsLogAnswer (file : Text) (journal : Option Text) (answer : Answer) : Type 0 where
  listed : (opened : KeptSteps) → Opens file journal opened → answer ≡ answer_of (log_text opened) [] 0 → IsLogAnswer file journal answer
  unopened : IsUnopenedAnswer file journal answer → IsLogAnswer file journal answer

-- the outcome of a run that leaves a new journal and nothing else
abbrev pub journal_left : Text → Outcome
journal_left journal = record { file = None; journal = Some journal; message = []; status = 0 }

-- `forget F`: a new journal, with no steps
pub data IsForgetAnswer (file : Text) (answer : Answer) : Type 0 where
  forgot : (saved : Saved) → IsOpenable file → Saves (started file) saved → answer ≡ record { output = []; outcome = journal_left saved.journal }
      → IsForgetAnswer file answer
  unforgotten : IsUnopenedAnswer file None answer → IsForgetAnswer file answer
