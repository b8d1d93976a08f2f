use Rattle.bib_store.proofs.EntryItems.{entry_within, entry_stands}
use Rattle.bib_store.proofs.database.Database.entry.Goals as goal

pub item-requires : goal.item-requires
item-requires g c = λ db r. entry_within db c.args.n c.entry_item.result (c.requires db r) (c.entry_item.ensures db r)

pub returns : goal.returns
returns g c = λ db r i listed. c.item.ensures db r i (entry_stands db c.args.n c.entry_item.result i (c.entry_item.ensures db r) listed)
