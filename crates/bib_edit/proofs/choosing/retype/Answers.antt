use Rattle.bib_edit.proofs.Words.{sym, ◌∙◌, ap}
use Rattle.edit_spec.specs.Edits as edits
use Rattle.bib_data.specs.declared.edit.Edit.TheVariants as asked
use Rattle.bib_edit.specs.Numbers.{which_of, which_seen}
use Rattle.bib_edit.proofs.AskedEdits.{of-one-set_type}
use Rattle.bib_edit.proofs.ChosenPlans.{ok-chosen, free-chosen, err-chosen}
use Rattle.bib_edit.proofs.choosing.retype.Goals as goal

pub set_type-requires : goal.set_type-requires
set_type-requires g c = sym c.is_numbered.ensures ∙ c.if-is_numbered.false

pub returns-then-is_numbered-clause-pieces : goal.returns-then-is_numbered-clause-pieces
returns-then-is_numbered-clause-pieces g c = ok-chosen (asked.SetType c.args.key.now c.args.kind_name.now) (edits.ChangeEntry (which_seen c.which_of.result) (edits.SetsType c.args.kind_name.now)) (edits.ChangeEntry (which_of c.args.key.now) (edits.SetsType c.args.kind_name.now)) (ap (λ (w : edits.Which). edits.ChangeEntry w (edits.SetsType c.args.kind_name.now)) c.which_of.ensures) (λ P h. of-one-set_type c.args.key.now c.args.kind_name.now (sym c.is_numbered.ensures ∙ c.if-is_numbered.true) P h) c.args.db.now c.set_one_type.result c.set_one_type.ensures.pieces

pub returns-then-is_numbered-clause-allowed : goal.returns-then-is_numbered-clause-allowed
returns-then-is_numbered-clause-allowed g c = free-chosen (asked.SetType c.args.key.now c.args.kind_name.now) (edits.ChangeEntry (which_seen c.which_of.result) (edits.SetsType c.args.kind_name.now)) (edits.ChangeEntry (which_of c.args.key.now) (edits.SetsType c.args.kind_name.now)) (ap (λ (w : edits.Which). edits.ChangeEntry w (edits.SetsType c.args.kind_name.now)) c.which_of.ensures) (λ P h. of-one-set_type c.args.key.now c.args.kind_name.now (sym c.is_numbered.ensures ∙ c.if-is_numbered.true) P h) c.args.db.now c.set_one_type.result c.set_one_type.ensures.allowed

pub returns-then-is_numbered-clause-refused : goal.returns-then-is_numbered-clause-refused
returns-then-is_numbered-clause-refused g c = err-chosen (asked.SetType c.args.key.now c.args.kind_name.now) (edits.ChangeEntry (which_seen c.which_of.result) (edits.SetsType c.args.kind_name.now)) (edits.ChangeEntry (which_of c.args.key.now) (edits.SetsType c.args.kind_name.now)) (ap (λ (w : edits.Which). edits.ChangeEntry w (edits.SetsType c.args.kind_name.now)) c.which_of.ensures) (λ P h. of-one-set_type c.args.key.now c.args.kind_name.now (sym c.is_numbered.ensures ∙ c.if-is_numbered.true) P h) c.args.db.now c.set_one_type.result c.set_one_type.ensures.refused
