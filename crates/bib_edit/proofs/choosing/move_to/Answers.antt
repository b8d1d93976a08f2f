use Rattle.bib_edit.proofs.Words.{sym, ◌∙◌, ap}
use Rattle.edit_spec.specs.Edits as edits
use Rattle.bib_data.specs.declared.edit.Edit.TheVariants as asked
use Rattle.bib_edit.specs.Numbers.{which_of, which_seen}
use Rattle.bib_edit.proofs.AskedEdits.{of-one-move_entry}
use Rattle.bib_edit.proofs.ChosenPlans.{ok-chosen, free-chosen, err-chosen}
use Rattle.bib_edit.proofs.choosing.move_to.Goals as goal

pub move_entry-requires : goal.move_entry-requires
move_entry-requires g c = sym c.is_numbered.ensures ∙ c.if-is_numbered.false

pub returns-then-is_numbered-clause-pieces : goal.returns-then-is_numbered-clause-pieces
returns-then-is_numbered-clause-pieces g c = ok-chosen (asked.MoveEntry c.args.key.now c.args.position) (edits.ChangeEntry (which_seen c.which_of.result) (edits.Moves c.args.position)) (edits.ChangeEntry (which_of c.args.key.now) (edits.Moves c.args.position)) (ap (λ (w : edits.Which). edits.ChangeEntry w (edits.Moves c.args.position)) c.which_of.ensures) (λ P h. of-one-move_entry c.args.key.now c.args.position (sym c.is_numbered.ensures ∙ c.if-is_numbered.true) P h) c.args.db.now c.move_one.result c.move_one.ensures.pieces

pub returns-then-is_numbered-clause-allowed : goal.returns-then-is_numbered-clause-allowed
returns-then-is_numbered-clause-allowed g c = free-chosen (asked.MoveEntry c.args.key.now c.args.position) (edits.ChangeEntry (which_seen c.which_of.result) (edits.Moves c.args.position)) (edits.ChangeEntry (which_of c.args.key.now) (edits.Moves c.args.position)) (ap (λ (w : edits.Which). edits.ChangeEntry w (edits.Moves c.args.position)) c.which_of.ensures) (λ P h. of-one-move_entry c.args.key.now c.args.position (sym c.is_numbered.ensures ∙ c.if-is_numbered.true) P h) c.args.db.now c.move_one.result c.move_one.ensures.allowed

pub returns-then-is_numbered-clause-refused : goal.returns-then-is_numbered-clause-refused
returns-then-is_numbered-clause-refused g c = err-chosen (asked.MoveEntry c.args.key.now c.args.position) (edits.ChangeEntry (which_seen c.which_of.result) (edits.Moves c.args.position)) (edits.ChangeEntry (which_of c.args.key.now) (edits.Moves c.args.position)) (ap (λ (w : edits.Which). edits.ChangeEntry w (edits.Moves c.args.position)) c.which_of.ensures) (λ P h. of-one-move_entry c.args.key.now c.args.position (sym c.is_numbered.ensures ∙ c.if-is_numbered.true) P h) c.args.db.now c.move_one.result c.move_one.ensures.refused
