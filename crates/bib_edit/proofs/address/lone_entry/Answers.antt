use Rattle.bib_edit.proofs.NamedEntries.{named-item, named-within}
use Rattle.bib_edit.proofs.address.lone_entry.Goals as goal

pub entry_item-requires : goal.entry_item-requires
entry_item-requires g c db reads = named-within c.args.key.now db c.in_ok-n.n (c.in_ok-n.ensures.lone db reads).named

pub returns-clause-lone : goal.returns-clause-lone
returns-clause-lone g c db reads =
    let lone = c.in_ok-n.ensures.lone db reads in
    record { item = named-item c.args.key.now db c.in_ok-n.n c.entry_item.result lone.named (c.entry_item.ensures db reads); once = lone.once }
