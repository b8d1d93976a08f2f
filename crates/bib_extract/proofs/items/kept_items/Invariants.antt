use Rattle.bib_store.specs.Readings.{OfReading}
use Rattle.bib_extract.specs.Marks.{is_marked}
use Rattle.bib_extract.proofs.WalkedItems.{IsWalkedTo}
use Rattle.bib_extract.proofs.items.kept_items.Given as goal

abbrev pub invariant-items : goal.invariant-items
invariant-items g l = OfReading l.db (λ r. IsWalkedTo (is_marked l.entries) r.items l.k l.n l.names l.marks.items)

abbrev pub decreases-items : goal.decreases-items
decreases-items g l = l.k
