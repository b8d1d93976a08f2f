use Rattle.bib_scan.proofs.Words.{length, name_limit}
use Rattle.bib_scan.proofs.RowsLemmas.{RowsOn}
use Rattle.bib_scan.proofs.NoteLemmas.{CrossrefOn}
use Rattle.bib_scan.proofs.body.past_rows.Given as goal

abbrev pub invariant-turns : goal.invariant-turns
invariant-turns l = RowsOn name_limit l.close l.text l.rest × CrossrefOn l.text l.rest l.crossref_left

abbrev pub decreases-turns : goal.decreases-turns
decreases-turns l = length l.rest
