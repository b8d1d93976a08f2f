use Rattle.bib_edit.proofs.Words.{sym, ◌∙◌, arith}
use Rattle.bib_edit.proofs.DefinitionsEnd.{none-leads, first-leads}
use Rattle.bib_edit.proofs.define_macro.count_before_entries.Goals as goal

pub entry_item-requires : goal.entry_item-requires
entry_item-requires g c db reads =
    let some = c.if-entry_count-eq0.false in
    let count = c.entry_count.ensures db reads in omega (arith, some, count)

pub returns-then-entry_count-eq0 : goal.returns-then-entry_count-eq0
returns-then-entry_count-eq0 g c db reads =
    c.item_count.ensures db reads ∙ none-leads db (sym (c.entry_count.ensures db reads) ∙ c.if-entry_count-eq0.true)

pub returns : goal.returns
returns g c db reads = first-leads db c.entry_item.result (c.entry_item.ensures db reads)
