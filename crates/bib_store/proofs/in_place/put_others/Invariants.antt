use Rattle.bib_store.proofs.Words.{◌≡◌, ◌+◌, List, name_limit, IsItem, AreItemsOf, bodies_between, with_bounds}
use Rattle.std.specs.List.{All}
use Rattle.bib_spec.specs.Reading.{Item}
use Rattle.bib_store.proofs.PlacedItems.{PlacedSoFar}
use Rattle.bib_store.proofs.in_place.put_others.Given as goal

abbrev pub invariant-each : goal.invariant-each
invariant-each g l =
    ((new : List Item) → AreItemsOf (bodies_between (l.put_in.window.from + 1) (l.put_in.window.from + l.put_in.count) (g.L.ItemList.items l.items)) new → All (IsItem name_limit) new
    → PlacedSoFar l.k (l.put_in.window.from + 2) (bodies_between (l.put_in.window.from + l.put_in.count + 1) (l.put_in.window.from + l.put_in.count + l.put_in.count) (g.L.ItemList.items l.items)) new l.initial.tables l.tables)
    × (l.tables ≡ with_bounds l.tables.bounds l.initial.tables)
