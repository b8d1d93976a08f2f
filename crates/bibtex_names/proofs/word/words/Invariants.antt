use Rattle.bib_names.proofs.Words.{AreBraces}
use Rattle.bibtex_names.proofs.WordLemmas.{AreWordsSoFar}
use Rattle.bibtex_names.proofs.word.words.Given as goal

abbrev pub invariant-loop-place : goal.invariant-loop-place
invariant-loop-place l = record {
  braces : AreBraces l.piece l.place l.braces.opened l.braces.closed;
  words : AreWordsSoFar l.piece l.words.items l.start l.sep l.place;
}
