use Rattle.bib_names.proofs.Words.{map, AreBraces}
use Rattle.bib_names.proofs.NameListLemmas.{AreNamesSoFar}
use Rattle.bib_names.proofs.name_list.names_of.Given as goal

abbrev pub invariant-loop-place : goal.invariant-loop-place
invariant-loop-place l = record {
  braces : AreBraces l.text l.place l.braces.opened l.braces.closed;
  names : AreNamesSoFar l.text (map (λ n. n.now) l.names.items) l.start l.place;
}
