use Rattle.bib_answers.proofs.Words.{OfReading}
use Rattle.bib_store.specs.Readings.{IsEntryNumber}
use Rattle.bib_answers.proofs.WrittenFields.{AreGatheredTo}
use Rattle.bib_answers.proofs.written.written_fields.Given as goal

abbrev pub invariant-inherit : goal.invariant-inherit
invariant-inherit l = IsEntryNumber l.db l.heir × OfReading l.db (λ r. AreGatheredTo r l.depth l.n l.counter l.heir l.gathered.names l.gathered.fields.items)
