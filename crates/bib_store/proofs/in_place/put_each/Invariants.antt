use Rattle.bib_store.proofs.Words.{◌≡◌, Reading, Reads, bodies_between, with_bounds}
use Rattle.bib_store.proofs.PlacedItems.{PlacedSoFar}
use Rattle.bib_store.proofs.in_place.put_each.Given as goal

abbrev pub invariant-each : goal.invariant-each
invariant-each g l =
    ((inner : Reading) → Reads l.change.text inner
    → PlacedSoFar l.k l.change.window.from (bodies_between l.change.window.from l.change.window.to (g.L.ItemList.items l.items)) inner.items l.initial.tables l.tables)
    × (l.tables ≡ with_bounds l.tables.bounds l.initial.tables)
