use Rattle.bib_edit.proofs.Words.{length, sym, ◌∙◌, ap, cond-true, cond-false}
use Rattle.std.proofs.Common.{unwrap_or}
use Rattle.edit_spec.specs.Edits.{Which, item_meant}
use Rattle.bib_edit.specs.Numbers.{is_numbered, which_of}
use Rattle.bib_edit.specs.Positions.{items_before}
use Rattle.bib_edit.proofs.positions.items_before_meant.Goals as goal

pub returns-then-not-is_numbered : goal.returns-then-not-is_numbered
returns-then-not-is_numbered g c db reads =
    c.items_before.ensures db reads
    ∙ sym (cond-false (is_numbered c.args.key.now) (unwrap_or (item_meant (which_of c.args.key.now) db.items) (length db.items)) (items_before c.args.key.now db.items) (sym c.is_numbered.ensures ∙ c.if-not-is_numbered.true))

pub returns-in-Some : goal.returns-in-Some
returns-in-Some g c db reads =
    ap (λ o. unwrap_or o (length db.items)) (c.in-Some.ensures db reads ∙ ap (λ (w : Which). item_meant w db.items) c.which_of.ensures)
    ∙ sym (cond-true (is_numbered c.args.key.now) (unwrap_or (item_meant (which_of c.args.key.now) db.items) (length db.items)) (items_before c.args.key.now db.items) (sym c.is_numbered.ensures ∙ c.if-not-is_numbered.false))

pub returns-in-None : goal.returns-in-None
returns-in-None g c db reads =
    c.item_count.ensures db reads
    ∙ ap (λ o. unwrap_or o (length db.items)) (c.in-None.ensures db reads ∙ ap (λ (w : Which). item_meant w db.items) c.which_of.ensures)
    ∙ sym (cond-true (is_numbered c.args.key.now) (unwrap_or (item_meant (which_of c.args.key.now) db.items) (length db.items)) (items_before c.args.key.now db.items) (sym c.is_numbered.ensures ∙ c.if-not-is_numbered.false))
