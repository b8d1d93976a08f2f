use Rattle.bib_names.proofs.Words.{AreBraces}
use Rattle.bibtex_names.proofs.CaseLemmas.{NoneDecides}
use Rattle.bibtex_names.proofs.case.is_lower.Given as goal

abbrev pub invariant-loop-place : goal.invariant-loop-place
invariant-loop-place l = record {
  braces : AreBraces l.word l.place l.braces.opened l.braces.closed;
  rest : NoneDecides l.word l.place;
}
