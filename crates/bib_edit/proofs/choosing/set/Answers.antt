use Rattle.bib_edit.proofs.Words.{sym, ◌∙◌, ap₂}
use Rattle.edit_spec.specs.Edits as edits
use Rattle.bib_data.specs.declared.edit.Edit.TheVariants as asked
use Rattle.bib_edit.specs.Numbers.{which_of, which_seen}
use Rattle.bib_edit.proofs.AskedEdits.{of-one-set_field}
use Rattle.bib_edit.proofs.ChosenPlans.{ok-spelled, free-spelled, err-spelled}
use Rattle.bib_edit.proofs.choosing.set.Goals as goal

pub set_field-requires : goal.set_field-requires
set_field-requires g c = sym c.is_either_numbered.ensures ∙ c.if-is_either_numbered.false

pub returns-then-is_either_numbered-clause-pieces : goal.returns-then-is_either_numbered-clause-pieces
returns-then-is_either_numbered-clause-pieces g c = ok-spelled (asked.SetField c.args.key.now c.args.field.now c.args.value.now) c.args.value.now (λ v. edits.ChangeEntry (which_seen c.which_of.result) (edits.SetsField (which_seen c.which_of-then-is_either_numbered.result) v)) (λ v. edits.ChangeEntry (which_of c.args.key.now) (edits.SetsField (which_of c.args.field.now) v)) (λ v. ap₂ (λ (w x : edits.Which). edits.ChangeEntry w (edits.SetsField x v)) c.which_of.ensures c.which_of-then-is_either_numbered.ensures) (λ P h. of-one-set_field c.args.key.now c.args.field.now c.args.value.now (sym c.is_either_numbered.ensures ∙ c.if-is_either_numbered.true) P h) c.args.db.now c.set_one_field.result c.set_one_field.ensures.pieces

pub returns-then-is_either_numbered-clause-allowed : goal.returns-then-is_either_numbered-clause-allowed
returns-then-is_either_numbered-clause-allowed g c = free-spelled (asked.SetField c.args.key.now c.args.field.now c.args.value.now) c.args.value.now (λ v. edits.ChangeEntry (which_seen c.which_of.result) (edits.SetsField (which_seen c.which_of-then-is_either_numbered.result) v)) (λ v. edits.ChangeEntry (which_of c.args.key.now) (edits.SetsField (which_of c.args.field.now) v)) (λ v. ap₂ (λ (w x : edits.Which). edits.ChangeEntry w (edits.SetsField x v)) c.which_of.ensures c.which_of-then-is_either_numbered.ensures) (λ P h. of-one-set_field c.args.key.now c.args.field.now c.args.value.now (sym c.is_either_numbered.ensures ∙ c.if-is_either_numbered.true) P h) c.args.db.now c.set_one_field.result c.set_one_field.ensures.allowed

pub returns-then-is_either_numbered-clause-refused : goal.returns-then-is_either_numbered-clause-refused
returns-then-is_either_numbered-clause-refused g c = err-spelled (asked.SetField c.args.key.now c.args.field.now c.args.value.now) c.args.value.now (λ v. edits.ChangeEntry (which_seen c.which_of.result) (edits.SetsField (which_seen c.which_of-then-is_either_numbered.result) v)) (λ v. edits.ChangeEntry (which_of c.args.key.now) (edits.SetsField (which_of c.args.field.now) v)) (λ v. ap₂ (λ (w x : edits.Which). edits.ChangeEntry w (edits.SetsField x v)) c.which_of.ensures c.which_of-then-is_either_numbered.ensures) (λ P h. of-one-set_field c.args.key.now c.args.field.now c.args.value.now (sym c.is_either_numbered.ensures ∙ c.if-is_either_numbered.true) P h) c.args.db.now c.set_one_field.result c.set_one_field.ensures.refused
