use Rattle.bib_scan.proofs.Words.{length, name_limit}
use Rattle.bib_scan.proofs.PartsLemmas.{PartsOn}
use Rattle.bib_scan.proofs.parts.spans.Given as goal

abbrev pub invariant-parts : goal.invariant-parts
invariant-parts l = PartsOn name_limit l.bytes l.next l.spans.items

abbrev pub decreases-parts : goal.decreases-parts
decreases-parts l = length l.next
