use Rattle.std.proofs.Common.{◌≡◌, List, take}
use Rattle.bib_spec.specs.Records.{EntryTexts, keys_of}
use Rattle.bibtex_places.specs.KeyTables.{FindsKeys}
use Rattle.bibtex_places.specs.Lists.{unknown_places}
use Rattle.bibtex_places.proofs.listing.unknown_places.Given as goal

abbrev pub invariant-seek : goal.invariant-seek
invariant-seek l = (texts : List EntryTexts) → FindsKeys l.table (keys_of texts) → l.unknown.items ≡ unknown_places texts (take l.place l.keys)
