-- What is answered to the records that BibTeX lists for keys.
use Rattle.std.specs.Prelude.{ℕ, List, [], if◌then◌else◌}
use Rattle.bib_spec.specs.Text.{Text}
use Rattle.bib_spec.specs.Records.{EntryTexts}
use Rattle.bibtex_spec.specs.Listed.{ListedRecord, listed_as_bibtex}
use Rattle.bib_answers.specs.declared.answers.Answer.{Answer}
use Rattle.bib_answers.specs.Outcome.{answer_of}
use Rattle.bibtex_places.specs.Lists.{is_too_deep}
use Rattle.bibtex_answers.specs.Messages.{too_deep_line}

-- what `told` makes of the list for these keys; or, if an entry of it inherits from too many entries, that it does (dialect)
abbrev pub listed_answer : (List ListedRecord → Answer) → List EntryTexts → List Text → ℕ → Answer
listed_answer told entries keys least =
    if is_too_deep entries keys least then answer_of [] too_deep_line 1 else told (listed_as_bibtex entries keys least)
