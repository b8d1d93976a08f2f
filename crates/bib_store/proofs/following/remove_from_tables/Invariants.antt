use Rattle.bib_store.proofs.Words.{◌≡◌, ◌-◌}
use Rattle.bib_store.proofs.Followed.{TakenSoFar}
use Rattle.bib_store.proofs.following.remove_from_tables.Given as goal

abbrev pub invariant-remove_from_tables : goal.invariant-remove_from_tables
invariant-remove_from_tables g l = TakenSoFar (l.k - l.from) l.at l.from l.to (g.L.ItemList.items l.items) l.initial.tables l.tables × (l.tables.file_len ≡ l.initial.tables.file_len)
