use Rattle.std.proofs.Common.{List, map}
use Rattle.bib_spec.specs.Text.{Text}
use Rattle.bib_spec.specs.Records.{EntryTexts}
use Rattle.bibtex_places.specs.Seen.{seen}
use Rattle.bibtex_places.specs.Sources.{AreSources}
use Rattle.bibtex_places.proofs.ListedEntries.{AreListed}
use Rattle.bibtex_places.proofs.listing.list.Given as goal

abbrev pub invariant-list : goal.invariant-list
invariant-list l = (texts : List EntryTexts) (keys : List Text) → AreSources l.sources texts keys → AreListed texts keys l.sources.least (map seen l.sources.places.now) l.listed.items l.i
