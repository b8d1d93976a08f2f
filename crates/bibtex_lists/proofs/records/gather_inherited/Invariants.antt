use Rattle.std.proofs.Common.{◌≡◌, drop}
use Rattle.bib_spec.specs.Records.{entries_of, with_inherited}
use Rattle.bib_store.specs.Readings.{OfReading}
use Rattle.bib_store.specs.Gathering.{AreTaken}
use Rattle.bibtex_lists.proofs.records.gather_inherited.Given as goal

abbrev pub invariant-inherit : goal.invariant-inherit
invariant-inherit g l =
    AreTaken l.fields.names l.fields.fields.items
    × OfReading l.db (λ r. with_inherited (entries_of r) l.fields.fields.items (drop l.n-index l.up) ≡ with_inherited (entries_of r) l.initial.fields.fields.items l.up)
