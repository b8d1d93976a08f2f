use Rattle.bib_names.proofs.Words.{◌≡◌, drop}
use Rattle.bib_names.specs.Case.{first_letter_is_lower}
use Rattle.bibtex_names.proofs.case.first_letter_is_lower.Given as goal

abbrev pub invariant-loop-letter : goal.invariant-loop-letter
invariant-loop-letter l = first_letter_is_lower (drop l.letter-index l.text) ≡ first_letter_is_lower l.text
