use Rattle.bib_store.proofs.Words.{◌≡◌, List, map, RecordField, entries_of, chosen, OfReading, IsEntryNumber}
use Rattle.bib_store.proofs.Inherited.{with_lineage, with_rest}
use Rattle.bib_store.proofs.database.Database.choose_inherited.Given as goal

abbrev pub invariant-along : goal.invariant-along
invariant-along g l =
    IsEntryNumber l.self l.heir
    × OfReading l.self (λ db. (all : List RecordField) → l.initial.fields.items ≡ chosen (map (λ name. name.now) l.names) all
    → (so_far : List RecordField) × (l.fields.items ≡ chosen (map (λ name. name.now) l.names) so_far)
    × (with_rest (entries_of db) l.depth l.counter l.heir so_far ≡ with_lineage (entries_of db) l.depth l.n all))
