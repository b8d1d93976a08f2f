use Rattle.bib_edit.proofs.Words.{sym, ◌∙◌, ap}
use Rattle.edit_spec.specs.Edits as edits
use Rattle.bib_data.specs.declared.edit.Edit.TheVariants as asked
use Rattle.bib_edit.specs.Numbers.{which_of, which_seen}
use Rattle.bib_edit.proofs.AskedEdits.{of-one-remove_entry}
use Rattle.bib_edit.proofs.ChosenPlans.{ok-chosen, free-chosen, err-chosen}
use Rattle.bib_edit.proofs.choosing.remove.Goals as goal

pub remove_entry-requires : goal.remove_entry-requires
remove_entry-requires g c = sym c.is_numbered.ensures ∙ c.if-is_numbered.false

pub returns-then-is_numbered-clause-pieces : goal.returns-then-is_numbered-clause-pieces
returns-then-is_numbered-clause-pieces g c = ok-chosen (asked.RemoveEntry c.args.key.now) (edits.ChangeEntry (which_seen c.which_of.result) edits.Removes) (edits.ChangeEntry (which_of c.args.key.now) edits.Removes) (ap (λ (w : edits.Which). edits.ChangeEntry w edits.Removes) c.which_of.ensures) (λ P h. of-one-remove_entry c.args.key.now (sym c.is_numbered.ensures ∙ c.if-is_numbered.true) P h) c.args.db.now c.remove_one.result c.remove_one.ensures.pieces

pub returns-then-is_numbered-clause-allowed : goal.returns-then-is_numbered-clause-allowed
returns-then-is_numbered-clause-allowed g c = free-chosen (asked.RemoveEntry c.args.key.now) (edits.ChangeEntry (which_seen c.which_of.result) edits.Removes) (edits.ChangeEntry (which_of c.args.key.now) edits.Removes) (ap (λ (w : edits.Which). edits.ChangeEntry w edits.Removes) c.which_of.ensures) (λ P h. of-one-remove_entry c.args.key.now (sym c.is_numbered.ensures ∙ c.if-is_numbered.true) P h) c.args.db.now c.remove_one.result c.remove_one.ensures.allowed

pub returns-then-is_numbered-clause-refused : goal.returns-then-is_numbered-clause-refused
returns-then-is_numbered-clause-refused g c = err-chosen (asked.RemoveEntry c.args.key.now) (edits.ChangeEntry (which_seen c.which_of.result) edits.Removes) (edits.ChangeEntry (which_of c.args.key.now) edits.Removes) (ap (λ (w : edits.Which). edits.ChangeEntry w edits.Removes) c.which_of.ensures) (λ P h. of-one-remove_entry c.args.key.now (sym c.is_numbered.ensures ∙ c.if-is_numbered.true) P h) c.args.db.now c.remove_one.result c.remove_one.ensures.refused
