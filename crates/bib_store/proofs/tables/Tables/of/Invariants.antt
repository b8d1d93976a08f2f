use Rattle.bib_store.proofs.Words.{without_range}
use Rattle.bib_store.proofs.WalkedFiles.{WalkedTo}
use Rattle.bib_store.proofs.tables.Tables.of.Given as goal

abbrev pub invariant-walk : goal.invariant-walk
invariant-walk g l = WalkedTo l.front_len (without_range l.from l.to (g.L.ItemList.items l.items)) l.n l.start l.tables
