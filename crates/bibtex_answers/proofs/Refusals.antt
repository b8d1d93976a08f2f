-- Answers to a file that is open after the macros of the style, and answers that say why it is not.
use Rattle.std.proofs.Common.{◌≡◌, ◌≢◌, ◌∙◌, ℕ, [], ◌∷◌, ◌++◌, length, drop, Option, None, Some, refl, ap, subst}
use Rattle.std.specs.Option.{option_map_or}
use Rattle.bib_spec.specs.Text.{Text}
use Rattle.bib_spec.specs.Reading.{Reading}
use Rattle.bib_spec.specs.Texts.{IsOpenable}
use Rattle.bib_store.specs.Readings.{IsOpenFault, OfReading}
use Rattle.bibtex_spec.specs.Plain.{not_plain}
use Rattle.bib_answers.specs.declared.answers.Answer.{Answer}
use Rattle.bib_answers.specs.Messages.{refusal_line}
use Rattle.bib_answers.specs.Outcome.{answer_of}
use Rattle.bibtex_answers.specs.Messages.{not_plain_line}
use Rattle.bibtex_answers.specs.Opened as opening
use Rattle.bibtex_answers.specs.Opened.{AnswersAsBibtex, if_plain}
use Rattle.bibtex_answers.specs.StyleMacros.{with_style, place_in_file}

-- a file that is not plain
pub not_plain_so : (answers : Reading → Answer) (db : Reading) (place : ℕ) (answer : Answer) → Some place ≡ not_plain db → answer ≡ answer_of [] (not_plain_line (place_in_file place)) 1 → answer ≡ if_plain answers db
not_plain_so answers db place answer at is =
    is ∙ ap (λ (o : Option ℕ). option_map_or (λ p. answer_of [] (not_plain_line (place_in_file p)) 1) o (answers db)) at

-- a plain file
pub plain_so : (answers : Reading → Answer) (db : Reading) (answer : Answer) → None ≡ not_plain db → answer ≡ answers db → answer ≡ if_plain answers db
plain_so answers db answer at is =
    is ∙ ap (λ (o : Option ℕ). option_map_or (λ p. answer_of [] (not_plain_line (place_in_file p)) 1) o (answers db)) at

-- what is answered to what an open file says is the answer to the file
pub file_answered : (answers : Reading → Answer) (file now : Text) (answer : Answer) → now ≡ with_style file → IsOpenable (with_style file) → OfReading now (λ r. answer ≡ if_plain answers r) → AnswersAsBibtex answers file answer
file_answered answers file now answer same is given =
    opening.opened is.0 is.1 (subst (λ (t : Text). OfReading t (λ r. answer ≡ if_plain answers r)) same given is.0 is.1.reads)

-- the answer says so, and not for want of memory
abbrev pub IsRefusal : ℕ → ℕ → Answer → Type 0
IsRefusal kind place answer = (kind ≢ 10) × (answer ≡ answer_of [] (refusal_line kind place) 1)

-- the file has a fault of its own
pub own_fault : (answers : Reading → Answer) (file : Text) (kind place other at : ℕ) (answer : Answer) → IsOpenFault file kind place → other ≢ 10 → IsOpenFault (with_style file) other at → IsRefusal kind place answer
    → AnswersAsBibtex answers file answer
own_fault answers file kind place other at answer why others joined is = opening.refused kind place other at is.0 (opening.own kind place why) others joined is.1

-- or only the text with the macros has one
pub style_fault : (answers : Reading → Answer) (file : Text) (kind at : ℕ) (answer : Answer) → IsOpenable file → IsOpenFault (with_style file) kind at → IsRefusal kind (place_in_file at) answer → AnswersAsBibtex answers file answer
style_fault answers file kind at answer alone joined is = opening.refused kind (place_in_file at) kind at is.0 (opening.with_macros kind at alone joined) is.0 joined is.1

-- a text without its front
pub drop_front : (front text : Text) → drop (length front) (front ++ text) ≡ text
drop_front [] text = refl
drop_front (b ∷ front) text = drop_front front text
