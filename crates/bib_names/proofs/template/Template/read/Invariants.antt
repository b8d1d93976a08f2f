use Rattle.bib_names.proofs.Words.{length}
use Rattle.bib_names.proofs.TemplateLaws.{IsReadSoFar}
use Rattle.bib_names.proofs.template.Template.read.Given as goal

abbrev pub decreases-loop-inside : goal.decreases-loop-inside
decreases-loop-inside l = length l.rest

abbrev pub invariant-loop-inside : goal.invariant-loop-inside
invariant-loop-inside l = IsReadSoFar l.fn.bytes l.front l.groups.items l.rest
