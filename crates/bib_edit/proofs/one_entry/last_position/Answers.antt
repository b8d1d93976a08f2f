use Rattle.bib_edit.proofs.Words.{◌-◌, sym, ◌∙◌, ap}
use Rattle.bib_edit.specs.Numbers.{which_seen}
use Rattle.bib_edit.proofs.MovedOne.{last-is, last-none}
use Rattle.bib_edit.proofs.one_entry.last_position.Goals as goal

pub returns-in-Some : goal.returns-in-Some
returns-in-Some g c db reads = c.saturating_sub.ensures ∙ ap (λ k. k - 1) (c.item_count.ensures db reads) ∙ sym (last-is (which_seen c.args.key) db c.in-Some.field-0 (sym (c.in-Some.ensures db reads)))

pub returns-in-None : goal.returns-in-None
returns-in-None g c db reads = c.item_count-in-None.ensures db reads ∙ sym (last-none (which_seen c.args.key) db (sym (c.in-None.ensures db reads)))
