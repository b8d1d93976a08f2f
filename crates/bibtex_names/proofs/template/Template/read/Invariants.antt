use Rattle.bib_names.proofs.Words.{AreBraces}
use Rattle.bibtex_names.proofs.TemplateLemmas.{AreGroupsSoFar}
use Rattle.bibtex_names.proofs.template.Template.read.Given as goal

abbrev pub invariant-loop-place : goal.invariant-loop-place
invariant-loop-place l = record {
  braces : AreBraces l.bytes l.place l.braces.opened l.braces.closed;
  groups : AreGroupsSoFar l.bytes l.groups.items l.place;
}
