use Rattle.bib_names.proofs.BraceLemmas.{AreBracesFrom}
use Rattle.bibtex_names.proofs.LetterLemmas.{NoLetterYet}
use Rattle.bibtex_names.proofs.template_reading.letter_from.Given as goal

abbrev pub invariant-loop-place : goal.invariant-loop-place
invariant-loop-place l = record {
  braces : AreBracesFrom l.inside l.start l.place l.braces.opened l.braces.closed;
  letters : NoLetterYet l.inside l.start l.place;
}
