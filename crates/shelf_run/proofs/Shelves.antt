-- Answers to files that were opened as one.
use Rattle.std.proofs.Common.{◌≡◌, ◌∙◌, ℕ, List, length, sym, ap, ap₂, subst}
use Rattle.bib_spec.specs.Text.{Text}
use Rattle.bib_spec.specs.Reading.{Reading}
use Rattle.bib_store.specs.Readings.{OfReading}
use Rattle.bib_shelf.specs.declared.joining.Joined.{Joined}
use Rattle.bib_shelf.specs.Joined.{text_of, spans_from, AreJoined}
use Rattle.bib_shelf.specs.Faults.{AreAccepted}
use Rattle.bib_shelf.proofs.Opens.{count_spans}
use Rattle.bib_answers.specs.declared.answers.Answer.{Answer}
use Rattle.shelf_run.specs.Answers.{AnswersShelf, opened}

-- what is answered to what accepted files say together is the answer to them
pub opened_answer : (answers : Reading → Answer → Type 0) (names files : List Text) (text : Text) (answer : Answer) → text ≡ text_of files → AreAccepted files
    → OfReading text (λ r. answers r answer) → AnswersShelf answers names files answer
opened_answer answers names files text answer same accepted given =
    opened accepted.opens.0 accepted.opens.1 accepted (subst (λ (t : Text). OfReading t (λ r. answers r answer)) same given accepted.opens.0 accepted.opens.1.reads)

-- as many spans as files
pub spans_counted : (files : List Text) (joined : Joined) → AreJoined files joined → length joined.spans ≡ length files
spans_counted files joined are = ap length are.spans ∙ count_spans 0 files

-- what is joined, from the files
joined_is : (files : List Text) (joined : Joined) → AreJoined files joined → joined ≡ record { text = text_of files; spans = spans_from 0 files }
joined_is files joined are = ap₂ (λ (t : Text) (s : List (ℕ × ℕ)). let it : Joined = record { text = t; spans = s } in it) are.text are.spans

-- the same files are joined in one way
pub same_joined : (fs files : List Text) (a b : Joined) → fs ≡ files → AreJoined fs a → AreJoined files b → a ≡ b
same_joined fs files a b same x y =
    joined_is fs a x ∙ ap (λ (l : List Text). let it : Joined = record { text = text_of l; spans = spans_from 0 l } in it) same ∙ sym (joined_is files b y)
