use Rattle.bib_names.proofs.BraceLemmas.{AreBracesFrom}
use Rattle.bib_names.proofs.CommaLemmas.{NoCommaYet}
use Rattle.bibtex_names.proofs.pieces.comma_from.Given as goal

abbrev pub invariant-loop-place : goal.invariant-loop-place
invariant-loop-place l = record {
  braces : AreBracesFrom l.text l.start l.place l.braces.opened l.braces.closed;
  commas : NoCommaYet l.text l.start l.place;
}
