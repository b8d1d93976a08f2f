use Rattle.bib_names.proofs.Words.{AreBraces}
use Rattle.bib_names.proofs.SpecialLemmas.{NoneLevel}
use Rattle.bibtex_names.proofs.letters.group_len.Given as goal

abbrev pub invariant-loop-last : goal.invariant-loop-last
invariant-loop-last l = record {
  braces : AreBraces l.text l.last l.braces.opened l.braces.closed;
  none : NoneLevel l.text 0 l.last;
}
