use Rattle.bib_edit.proofs.NamedEntries.{named-within}
use Rattle.bib_edit.proofs.FirstNumbers.{first-here, first-elsewhere, first-nowhere}
use Rattle.bib_edit.proofs.one_entry.first_number.Goals as goal

pub entry_item-requires : goal.entry_item-requires
entry_item-requires g c db reads = named-within c.args.key.name.now db c.in-Ok.m (c.in-Ok.ensures.found db reads)

pub returns-in_default-clause-later : goal.returns-in_default-clause-later
returns-in_default-clause-later g c db reads = first-nowhere c.args.key.name.now db c.args.n (c.in_default.ensures.none.1 db reads)

pub returns-then-entry_item-n-clause-first : goal.returns-then-entry_item-n-clause-first
returns-then-entry_item-n-clause-first g c db reads =
    let named = c.in-Ok.ensures.found db reads in
    (named, first-here c.args.key.name.now db c.args.n c.in-Ok.m c.entry_item.result named (c.entry_item.ensures db reads) c.if-entry_item-n.true)

pub returns-clause-later : goal.returns-clause-later
returns-clause-later g c db reads =
    first-elsewhere c.args.key.name.now db c.args.n c.in-Ok.m c.entry_item.result (c.in-Ok.ensures.found db reads) (c.entry_item.ensures db reads) c.if-entry_item-n.false
