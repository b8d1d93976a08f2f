use Rattle.bib_edit.proofs.Words.{sym, ◌∙◌, ap}
use Rattle.edit_spec.specs.Edits as edits
use Rattle.bib_data.specs.declared.edit.Edit.TheVariants as asked
use Rattle.bib_edit.specs.Numbers.{which_of, which_seen}
use Rattle.bib_edit.proofs.AskedEdits.{of-one-rename_key}
use Rattle.bib_edit.proofs.ChosenPlans.{ok-chosen, free-chosen, err-chosen}
use Rattle.bib_edit.proofs.choosing.rekey.Goals as goal

pub rename_key-requires : goal.rename_key-requires
rename_key-requires g c = sym c.is_numbered.ensures ∙ c.if-is_numbered.false

pub returns-then-is_numbered-clause-pieces : goal.returns-then-is_numbered-clause-pieces
returns-then-is_numbered-clause-pieces g c = ok-chosen (asked.RenameKey c.args.from.now c.args.to.now) (edits.ChangeEntry (which_seen c.which_of.result) (edits.RenamesKey c.args.to.now)) (edits.ChangeEntry (which_of c.args.from.now) (edits.RenamesKey c.args.to.now)) (ap (λ (w : edits.Which). edits.ChangeEntry w (edits.RenamesKey c.args.to.now)) c.which_of.ensures) (λ P h. of-one-rename_key c.args.from.now c.args.to.now (sym c.is_numbered.ensures ∙ c.if-is_numbered.true) P h) c.args.db.now c.rename_one_key.result c.rename_one_key.ensures.pieces

pub returns-then-is_numbered-clause-allowed : goal.returns-then-is_numbered-clause-allowed
returns-then-is_numbered-clause-allowed g c = free-chosen (asked.RenameKey c.args.from.now c.args.to.now) (edits.ChangeEntry (which_seen c.which_of.result) (edits.RenamesKey c.args.to.now)) (edits.ChangeEntry (which_of c.args.from.now) (edits.RenamesKey c.args.to.now)) (ap (λ (w : edits.Which). edits.ChangeEntry w (edits.RenamesKey c.args.to.now)) c.which_of.ensures) (λ P h. of-one-rename_key c.args.from.now c.args.to.now (sym c.is_numbered.ensures ∙ c.if-is_numbered.true) P h) c.args.db.now c.rename_one_key.result c.rename_one_key.ensures.allowed

pub returns-then-is_numbered-clause-refused : goal.returns-then-is_numbered-clause-refused
returns-then-is_numbered-clause-refused g c = err-chosen (asked.RenameKey c.args.from.now c.args.to.now) (edits.ChangeEntry (which_seen c.which_of.result) (edits.RenamesKey c.args.to.now)) (edits.ChangeEntry (which_of c.args.from.now) (edits.RenamesKey c.args.to.now)) (ap (λ (w : edits.Which). edits.ChangeEntry w (edits.RenamesKey c.args.to.now)) c.which_of.ensures) (λ P h. of-one-rename_key c.args.from.now c.args.to.now (sym c.is_numbered.ensures ∙ c.if-is_numbered.true) P h) c.args.db.now c.rename_one_key.result c.rename_one_key.ensures.refused
