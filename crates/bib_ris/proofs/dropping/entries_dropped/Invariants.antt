use Rattle.bib_ris.proofs.Words.{◌≡◌, take, entries_of, OfReading}
use Rattle.bib_ris.specs.Dropped.{entries_dropped}
use Rattle.bib_ris.proofs.dropping.entries_dropped.Given as goal

abbrev pub invariant-entries : goal.invariant-entries
invariant-entries g l = OfReading l.db (λ r. l.text.items ≡ entries_dropped l.depth (entries_of r) (take l.n-index l.list))
