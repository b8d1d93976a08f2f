use Rattle.bib_edit.proofs.Words.{sym, ◌∙◌}
use Rattle.bib_edit.proofs.NamedEntries.{named-item, named-within}
use Rattle.bib_edit.proofs.EntryPlaces.{before-named, before-none}
use Rattle.bib_edit.proofs.positions.items_before.Goals as goal

pub entry_item-requires : goal.entry_item-requires
entry_item-requires g c db reads = named-within c.args.key.now db c.in-Ok.n (c.in-Ok.ensures.found db reads)

pub returns-in-Ok : goal.returns-in-Ok
returns-in-Ok g c db reads =
    sym (before-named c.args.key.now db c.entry_item.result (named-item c.args.key.now db c.in-Ok.n c.entry_item.result (c.in-Ok.ensures.found db reads) (c.entry_item.ensures db reads)))

pub returns-in-Err : goal.returns-in-Err
returns-in-Err g c db reads = c.item_count.ensures db reads ∙ sym (before-none c.args.key.now db (c.in-Err.ensures.none.1 db reads))
