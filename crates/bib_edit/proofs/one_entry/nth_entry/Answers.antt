use Rattle.bib_edit.proofs.Words.{◌∙◌, sym}
use Rattle.bib_edit.proofs.NthHolders.{no-holder, holder-within, holder-item}
use Rattle.bib_edit.proofs.one_entry.nth_entry.Goals as goal

pub entry_item-requires : goal.entry_item-requires
entry_item-requires g c db reads = holder-within c.args.name.now c.args.number db c.in_ok-m.m (sym c.in_ok-m.was ∙ c.nth_holder.ensures db reads)

pub returns-in_err-m : goal.returns-in_err-m
returns-in_err-m g c db reads = c.from_residual.ensures ∙ no-holder c.args.name.now c.args.number db (sym c.in_err-m.was ∙ c.nth_holder.ensures db reads)

pub returns : goal.returns
returns g c db reads = holder-item c.args.name.now c.args.number db c.in_ok-m.m (sym c.in_ok-m.was ∙ c.nth_holder.ensures db reads) c.entry_item.result (c.entry_item.ensures db reads)
