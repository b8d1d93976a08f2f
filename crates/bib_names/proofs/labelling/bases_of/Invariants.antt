use Rattle.bib_names.proofs.Words.{◌≡◌, take, map, label_base}
use Rattle.bib_names.proofs.labelling.bases_of.Given as goal

abbrev pub invariant-loop-record : goal.invariant-loop-record
invariant-loop-record l = l.bases.items ≡ map (λ r. label_base r.fields) (take l.record-index l.records)
