use Rattle.bib_names.proofs.BraceLemmas.{AreBracesFrom}
use Rattle.bib_names.proofs.SpecialLemmas.{NoneLevel}
use Rattle.bibtex_names.proofs.special.group_end.Given as goal

abbrev pub invariant-loop-last : goal.invariant-loop-last
invariant-loop-last l = record {
  braces : AreBracesFrom l.text l.place l.last l.braces.opened l.braces.closed;
  none : NoneLevel l.text l.place l.last;
}
