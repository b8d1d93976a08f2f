use Rattle.bib_answers.proofs.Words.{◌≡◌, take, map, OfReading, IsKnown}
use Rattle.bib_store.specs.Readings.{entry_numbers}
use Rattle.bib_answers.specs.Entry.{place_of}
use Rattle.bib_answers.proofs.entry.places_of.Given as goal

abbrev pub invariant-entries : goal.invariant-entries
invariant-entries l = IsKnown l.db l.known × OfReading l.db (λ r. l.places.items ≡ map (place_of r) (take l.n (entry_numbers r.items)))
