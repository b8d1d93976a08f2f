use Rattle.std.proofs.Common.{◌≡◌, List, drop, map}
use Rattle.bib_spec.specs.Records.{RecordField, entries_of}
use Rattle.bib_store.specs.Choosing.{chosen}
use Rattle.bib_store.specs.Readings.{OfReading}
use Rattle.bibtex_lists.proofs.Chosen.{IsChosen}
use Rattle.bibtex_lists.proofs.choosing.choose_inherited.Given as goal

abbrev pub invariant-inherit : goal.invariant-inherit
invariant-inherit g l =
    OfReading l.db (λ r. (all : List RecordField) → l.initial.fields.items ≡ chosen (map (λ name. name.now) l.names) all
    → IsChosen (map (λ name. name.now) l.names) (entries_of r) all l.fields.items l.up (drop l.n-index l.up))
