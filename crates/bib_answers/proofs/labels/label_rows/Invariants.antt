use Rattle.bib_answers.proofs.Words.{take, entries_of, OfReading, records_at, AreLabelRows}
use Rattle.bib_keys.specs.Parents.{AreParents}
use Rattle.bib_answers.proofs.labels.label_rows.Given as goal

abbrev pub invariant-rows : goal.invariant-rows
invariant-rows l =
    AreParents l.db l.parents × OfReading l.db (λ r. AreLabelRows (records_at l.depth (entries_of r) (take l.n-index l.list)) l.rows.bases.items l.rows.keys.items)
