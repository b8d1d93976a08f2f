use Rattle.std.proofs.Common.{◌≡◌, List, drop}
use Rattle.bib_spec.specs.Records.{EntryTexts}
use Rattle.bibtex_spec.specs.Places.{read_entries}
use Rattle.bibtex_places.specs.Lists.{AreKeysOf}
use Rattle.bibtex_places.specs.Steps.{CountsAtMost}
use Rattle.bibtex_places.proofs.listing.read_entries.Given as goal

abbrev pub invariant-read : goal.invariant-read
invariant-read l = CountsAtMost l.n l.read × ((texts : List EntryTexts) → AreKeysOf l.entries texts → read_entries l.n l.read (drop l.n texts) ≡ read_entries 0 l.initial.read texts)
