-- Answers to a file as BibTeX reads it.
use Rattle.std.specs.Prelude.{◌≡◌, ◌≢◌, ℕ, []}
use Rattle.std.specs.Option.{option_map_or}
use Rattle.bib_spec.specs.Text.{Text}
use Rattle.bib_spec.specs.Reading.{Reading}
use Rattle.bib_spec.specs.Texts.{Opens, IsOpenable}
use Rattle.bib_store.specs.Readings.{IsOpenFault}
use Rattle.bibtex_spec.specs.Plain.{not_plain}
use Rattle.bib_answers.specs.declared.answers.Answer.{Answer}
use Rattle.bib_answers.specs.Messages.{refusal_line}
use Rattle.bib_answers.specs.Outcome.{answer_of}
use Rattle.bibtex_answers.specs.Messages.{not_plain_line}
use Rattle.bibtex_answers.specs.StyleMacros.{with_style, place_in_file}

-- the answer to what a file says after the macros of the style; or, if the file is not plain, where it is not (dialect)
abbrev pub if_plain : (Reading → Answer) → Reading → Answer
if_plain answers db = option_map_or (λ place. answer_of [] (not_plain_line (place_in_file place)) 1) (not_plain db) (answers db)

-- Why a file cannot be opened after the macros of the style, as a number and a place in the file. (dialect)
pub data IsFaultAsBibtex (file : Text) : ℕ → ℕ → Type 0 where
  -- the file has this fault without the macros, too
  own : (kind place : ℕ) → IsOpenFault file kind place → IsFaultAsBibtex file kind place
  -- the file alone can be opened, and with the macros it is too long, or a text of it is
  with_macros : (kind place : ℕ) → IsOpenable file → IsOpenFault (with_style file) kind place → IsFaultAsBibtex file kind (place_in_file place)

-- the answer to what the file says after the macros of the style; or, with nothing written, why it cannot be opened (dialect)
pub data AnswersAsBibtex (answers : Reading → Answer) (file : Text) (answer : Answer) : Type 0 where
  opened : (db : Reading) → Opens (with_style file) db → answer ≡ if_plain answers db → AnswersAsBibtex answers file answer
  refused : (kind place other at : ℕ) → kind ≢ 10 → IsFaultAsBibtex file kind place → other ≢ 10 → IsOpenFault (with_style file) other at
      → answer ≡ answer_of [] (refusal_line kind place) 1 → AnswersAsBibtex answers file answer
