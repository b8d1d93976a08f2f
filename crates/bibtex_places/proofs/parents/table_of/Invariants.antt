use Rattle.std.proofs.Common.{List, take}
use Rattle.bib_spec.specs.Records.{EntryTexts, keys_of}
use Rattle.bibtex_places.specs.KeyTables.{FindsKeys}
use Rattle.bibtex_places.specs.Lists.{AreKeysOf}
use Rattle.bibtex_places.proofs.parents.table_of.Given as goal

abbrev pub invariant-keys : goal.invariant-keys
invariant-keys l = (texts : List EntryTexts) → AreKeysOf l.entries texts → FindsKeys l.table (take l.n (keys_of texts))
