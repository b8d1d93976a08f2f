use Rattle.bib_edit.proofs.Words.{sym, ◌∙◌, ap₂}
use Rattle.edit_spec.specs.Edits as edits
use Rattle.bib_data.specs.declared.edit.Edit.TheVariants as asked
use Rattle.bib_edit.specs.Numbers.{which_of, which_seen}
use Rattle.bib_edit.proofs.AskedEdits.{of-one-drop_field}
use Rattle.bib_edit.proofs.ChosenPlans.{ok-chosen, free-chosen, err-chosen}
use Rattle.bib_edit.proofs.choosing.drop_row.Goals as goal

pub drop_field-requires : goal.drop_field-requires
drop_field-requires g c = sym c.is_either_numbered.ensures ∙ c.if-is_either_numbered.false

pub returns-then-is_either_numbered-clause-pieces : goal.returns-then-is_either_numbered-clause-pieces
returns-then-is_either_numbered-clause-pieces g c = ok-chosen (asked.DropField c.args.key.now c.args.field.now) (edits.ChangeEntry (which_seen c.which_of.result) (edits.DropsField (which_seen c.which_of-then-is_either_numbered.result))) (edits.ChangeEntry (which_of c.args.key.now) (edits.DropsField (which_of c.args.field.now))) (ap₂ (λ (w x : edits.Which). edits.ChangeEntry w (edits.DropsField x)) c.which_of.ensures c.which_of-then-is_either_numbered.ensures) (λ P h. of-one-drop_field c.args.key.now c.args.field.now (sym c.is_either_numbered.ensures ∙ c.if-is_either_numbered.true) P h) c.args.db.now c.drop_one_field.result c.drop_one_field.ensures.pieces

pub returns-then-is_either_numbered-clause-allowed : goal.returns-then-is_either_numbered-clause-allowed
returns-then-is_either_numbered-clause-allowed g c = free-chosen (asked.DropField c.args.key.now c.args.field.now) (edits.ChangeEntry (which_seen c.which_of.result) (edits.DropsField (which_seen c.which_of-then-is_either_numbered.result))) (edits.ChangeEntry (which_of c.args.key.now) (edits.DropsField (which_of c.args.field.now))) (ap₂ (λ (w x : edits.Which). edits.ChangeEntry w (edits.DropsField x)) c.which_of.ensures c.which_of-then-is_either_numbered.ensures) (λ P h. of-one-drop_field c.args.key.now c.args.field.now (sym c.is_either_numbered.ensures ∙ c.if-is_either_numbered.true) P h) c.args.db.now c.drop_one_field.result c.drop_one_field.ensures.allowed

pub returns-then-is_either_numbered-clause-refused : goal.returns-then-is_either_numbered-clause-refused
returns-then-is_either_numbered-clause-refused g c = err-chosen (asked.DropField c.args.key.now c.args.field.now) (edits.ChangeEntry (which_seen c.which_of.result) (edits.DropsField (which_seen c.which_of-then-is_either_numbered.result))) (edits.ChangeEntry (which_of c.args.key.now) (edits.DropsField (which_of c.args.field.now))) (ap₂ (λ (w x : edits.Which). edits.ChangeEntry w (edits.DropsField x)) c.which_of.ensures c.which_of-then-is_either_numbered.ensures) (λ P h. of-one-drop_field c.args.key.now c.args.field.now (sym c.is_either_numbered.ensures ∙ c.if-is_either_numbered.true) P h) c.args.db.now c.drop_one_field.result c.drop_one_field.ensures.refused
