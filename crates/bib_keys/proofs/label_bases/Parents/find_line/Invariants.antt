use Rattle.bib_keys.proofs.Words.{◌≡◌, ◌-◌, ◌++◌, entries_of, parent, lineage, OfReading, AreParents, AreKnown}
use Rattle.bib_store.specs.Readings.{IsEntryNumber}
use Rattle.bib_keys.proofs.label_bases.Parents.find_line.Given as goal

abbrev pub invariant-find : goal.invariant-find
invariant-find g l =
    IsEntryNumber l.records.db.now l.heir × AreParents l.records.db.now l.self × AreKnown l.self.known.items l.self.line.items
    × OfReading l.records.db.now (λ r. l.self.line.items ++ lineage (parent (entries_of r)) (l.records.depth - l.counter) l.heir ≡ lineage (parent (entries_of r)) l.records.depth l.n)
