use Rattle.bib_store.proofs.Words.{◌≡◌, entries_of, AreTaken, OfReading, IsEntryNumber}
use Rattle.bib_store.proofs.Inherited.{with_lineage, with_rest}
use Rattle.bib_store.proofs.database.Database.gather_inherited.Given as goal

abbrev pub invariant-inherit : goal.invariant-inherit
invariant-inherit g l =
    IsEntryNumber l.self l.heir × AreTaken l.fields.names l.fields.fields.items
    × OfReading l.self (λ db. with_rest (entries_of db) l.depth l.counter l.heir l.fields.fields.items ≡ with_lineage (entries_of db) l.depth l.n l.initial.fields.fields.items)
