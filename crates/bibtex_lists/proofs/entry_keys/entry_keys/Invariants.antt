use Rattle.std.proofs.Common.{take}
use Rattle.bib_spec.specs.Records.{entries_of}
use Rattle.bib_store.specs.Readings.{OfReading}
use Rattle.bibtex_places.specs.Lists.{AreKeysOf}
use Rattle.bibtex_lists.proofs.entry_keys.entry_keys.Given as goal

abbrev pub invariant-entries : goal.invariant-entries
invariant-entries g l = OfReading l.db (λ r. AreKeysOf l.given.items (take l.n (entries_of r)))
