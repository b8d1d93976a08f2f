use Rattle.bib_edit.proofs.Words.{◌∙◌, sym, ap, arith, same_Some, start_of, entry_within}
use Rattle.bib_edit.proofs.rekeying.push_entry.Goals as goal

pub item_place-start-requires : goal.item_place-start-requires
item_place-start-requires g c db reads =
    let within = entry_within db c.args.n c.entry_item.result (c.requires db reads) (c.entry_item.ensures db reads) in
    omega (arith, within)

pub push_entry_at-requires-clause-place : goal.push_entry_at-requires-clause-place
push_entry_at-requires-clause-place g c db reads i at =
    c.item_place-start.ensures db reads ∙ ap (start_of db) (same_Some c.entry_item.result i (sym (c.entry_item.ensures db reads) ∙ at))

pub push_entry_at-requires-clause-view : goal.push_entry_at-requires-clause-view
push_entry_at-requires-clause-view g c = c.entry-view.ensures
