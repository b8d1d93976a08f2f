use Rattle.std.proofs.Common.{◌≡◌, List, drop}
use Rattle.bib_spec.specs.Records.{EntryTexts}
use Rattle.bibtex_spec.specs.Places.{read_all}
use Rattle.bibtex_places.specs.Lists.{AreKeysOf}
use Rattle.bibtex_places.proofs.listing.read_all.Given as goal

abbrev pub invariant-read : goal.invariant-read
invariant-read l = (texts : List EntryTexts) → AreKeysOf l.entries texts → read_all l.cited l.n l.read (drop l.n texts) ≡ read_all l.cited 0 l.initial.read texts
