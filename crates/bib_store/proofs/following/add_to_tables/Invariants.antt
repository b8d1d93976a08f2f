use Rattle.bib_store.proofs.Words.{◌≡◌, ◌-◌}
use Rattle.bib_store.proofs.Followed.{PutSoFar}
use Rattle.bib_store.proofs.following.add_to_tables.Given as goal

abbrev pub invariant-add_to_tables : goal.invariant-add_to_tables
invariant-add_to_tables g l = PutSoFar (l.to - l.from - l.j) l.at l.from l.to (g.L.ItemList.items l.items) l.initial.tables l.tables × (l.tables.file_len ≡ l.initial.tables.file_len)
