-- What a list is made of, as the code keeps it.
use Rattle.std.specs.Prelude.{◌≡◌, List, map}
use Rattle.bib_spec.specs.Text.{Text}
use Rattle.bib_spec.specs.Records.{EntryTexts}
use Rattle.bibtex_spec.specs.Places.{are_all_cited, cited_keys}
use Rattle.bibtex_places.specs.Lists.{AreKeysOf}
use Rattle.bibtex_places.specs.Parents.{AreParents}
use Rattle.bibtex_places.specs.Seen.{seen}
use Rattle.bibtex_places.specs.declared.listing.Sources.{Sources}

-- the sources are those of these entries and keys, for places of these entries
pub record AreSources (sources : Sources) (texts : List EntryTexts) (keys : List Text) : Type 0 where
  pub entries : AreKeysOf sources.entries.now texts
  pub cited : sources.cited.now ≡ cited_keys keys
  pub parents : AreParents texts keys (map seen sources.places.now) sources.parents.now
  pub all : sources.all ≡ are_all_cited keys
