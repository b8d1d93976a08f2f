use Rattle.std.proofs.Common.{◌≡◌, List, take, map}
use Rattle.bib_spec.specs.Text.{Text}
use Rattle.bib_spec.specs.Records.{EntryTexts, keys_of}
use Rattle.bibtex_spec.specs.Places.{cited_keys, are_all_cited}
use Rattle.bibtex_places.specs.KeyTables.{FindsKeys}
use Rattle.bibtex_places.specs.Lists.{AreKeysOf}
use Rattle.bibtex_places.proofs.ParentLists.{parent_of}
use Rattle.bibtex_places.proofs.parents.parents_of.Given as goal

abbrev pub invariant-parents : goal.invariant-parents
invariant-parents l = (texts : List EntryTexts) (keys : List Text) → AreKeysOf l.entries texts → FindsKeys l.table (keys_of texts) → l.all ≡ are_all_cited keys → l.cited ≡ cited_keys keys
    → l.parents.items ≡ map (parent_of texts keys l.places) (take l.place-index l.places)
