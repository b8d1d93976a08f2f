use Rattle.bib_ris.proofs.Words.{◌≡◌, take, entries_of, OfReading}
use Rattle.bib_ris.specs.Plain.{entries_plain}
use Rattle.bib_ris.proofs.exporting.entries_plain.Given as goal

abbrev pub invariant-entries : goal.invariant-entries
invariant-entries g l = OfReading l.db (λ r. l.text.items ≡ entries_plain l.depth (entries_of r) (take l.n-index l.list))
