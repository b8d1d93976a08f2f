use Rattle.bib_edit.proofs.Words.{sym, ◌∙◌, ap}
use Rattle.std.proofs.Common.{Some}
use Rattle.edit_spec.specs.Edits as edits
use Rattle.bib_data.specs.declared.edit.Edit.TheVariants as asked
use Rattle.bib_edit.specs.Numbers.{which_of, which_seen}
use Rattle.bib_edit.proofs.AskedEdits.{of-one-rename_in_entry}
use Rattle.bib_edit.proofs.ChosenPlans.{ok-chosen, free-chosen, err-chosen}
use Rattle.bib_edit.proofs.choosing.rename_fields.Goals as goal

pub rename_in_entry-requires : goal.rename_in_entry-requires
rename_in_entry-requires g c = sym c.is_numbered.ensures ∙ c.if-is_numbered.false

pub returns-then-is_numbered-clause-pieces : goal.returns-then-is_numbered-clause-pieces
returns-then-is_numbered-clause-pieces g c = ok-chosen (asked.RenameField c.args.from.now c.args.to.now (Some c.args.key.now)) (edits.ChangeEntry (which_seen c.which_of.result) (edits.RenamesFields c.args.from.now c.args.to.now)) (edits.ChangeEntry (which_of c.args.key.now) (edits.RenamesFields c.args.from.now c.args.to.now)) (ap (λ (w : edits.Which). edits.ChangeEntry w (edits.RenamesFields c.args.from.now c.args.to.now)) c.which_of.ensures) (λ P h. of-one-rename_in_entry c.args.from.now c.args.to.now c.args.key.now (sym c.is_numbered.ensures ∙ c.if-is_numbered.true) P h) c.args.db.now c.rename_fields_of_one.result c.rename_fields_of_one.ensures.pieces

pub returns-then-is_numbered-clause-allowed : goal.returns-then-is_numbered-clause-allowed
returns-then-is_numbered-clause-allowed g c = free-chosen (asked.RenameField c.args.from.now c.args.to.now (Some c.args.key.now)) (edits.ChangeEntry (which_seen c.which_of.result) (edits.RenamesFields c.args.from.now c.args.to.now)) (edits.ChangeEntry (which_of c.args.key.now) (edits.RenamesFields c.args.from.now c.args.to.now)) (ap (λ (w : edits.Which). edits.ChangeEntry w (edits.RenamesFields c.args.from.now c.args.to.now)) c.which_of.ensures) (λ P h. of-one-rename_in_entry c.args.from.now c.args.to.now c.args.key.now (sym c.is_numbered.ensures ∙ c.if-is_numbered.true) P h) c.args.db.now c.rename_fields_of_one.result c.rename_fields_of_one.ensures.allowed

pub returns-then-is_numbered-clause-refused : goal.returns-then-is_numbered-clause-refused
returns-then-is_numbered-clause-refused g c = err-chosen (asked.RenameField c.args.from.now c.args.to.now (Some c.args.key.now)) (edits.ChangeEntry (which_seen c.which_of.result) (edits.RenamesFields c.args.from.now c.args.to.now)) (edits.ChangeEntry (which_of c.args.key.now) (edits.RenamesFields c.args.from.now c.args.to.now)) (ap (λ (w : edits.Which). edits.ChangeEntry w (edits.RenamesFields c.args.from.now c.args.to.now)) c.which_of.ensures) (λ P h. of-one-rename_in_entry c.args.from.now c.args.to.now c.args.key.now (sym c.is_numbered.ensures ∙ c.if-is_numbered.true) P h) c.args.db.now c.rename_fields_of_one.result c.rename_fields_of_one.ensures.refused
