use Rattle.bib_edit.proofs.Words.{ℕ, sym, ◌∙◌, ap}
use Rattle.edit_spec.specs.Edits as edits
use Rattle.bib_data.specs.declared.edit.Edit.TheVariants as asked
use Rattle.bib_edit.specs.Numbers.{which_of}
use Rattle.bib_edit.proofs.AskedEdits.{of-one-set_macro}
use Rattle.bib_edit.proofs.ChosenPlans.{ok-spelled, free-spelled, err-spelled}
use Rattle.bib_edit.proofs.choosing.redefine.Goals as goal

pub set_macro-requires : goal.set_macro-requires
set_macro-requires g c = sym c.is_numbered.ensures ∙ c.if-is_numbered.false

pub returns-then-is_numbered-clause-pieces : goal.returns-then-is_numbered-clause-pieces
returns-then-is_numbered-clause-pieces g c = ok-spelled (asked.SetMacro c.args.name.now c.args.value.now) c.args.value.now (λ v. edits.ChangeDefinition c.which_of-which.result.name.now c.unwrap_or-number.result (edits.SetsValue v)) (λ v. edits.ChangeDefinition (which_of c.args.name.now).name (edits.number_of (which_of c.args.name.now)) (edits.SetsValue v)) (λ v. ap (λ (k : ℕ). edits.ChangeDefinition c.which_of-which.result.name.now k (edits.SetsValue v)) c.unwrap_or-number.ensures ∙ ap (λ (w : edits.Which). edits.ChangeDefinition w.name (edits.number_of w) (edits.SetsValue v)) c.which_of-which.ensures) (λ P h. of-one-set_macro c.args.name.now c.args.value.now (sym c.is_numbered.ensures ∙ c.if-is_numbered.true) P h) c.args.db.now c.set_one_definition.result c.set_one_definition.ensures.pieces

pub returns-then-is_numbered-clause-allowed : goal.returns-then-is_numbered-clause-allowed
returns-then-is_numbered-clause-allowed g c = free-spelled (asked.SetMacro c.args.name.now c.args.value.now) c.args.value.now (λ v. edits.ChangeDefinition c.which_of-which.result.name.now c.unwrap_or-number.result (edits.SetsValue v)) (λ v. edits.ChangeDefinition (which_of c.args.name.now).name (edits.number_of (which_of c.args.name.now)) (edits.SetsValue v)) (λ v. ap (λ (k : ℕ). edits.ChangeDefinition c.which_of-which.result.name.now k (edits.SetsValue v)) c.unwrap_or-number.ensures ∙ ap (λ (w : edits.Which). edits.ChangeDefinition w.name (edits.number_of w) (edits.SetsValue v)) c.which_of-which.ensures) (λ P h. of-one-set_macro c.args.name.now c.args.value.now (sym c.is_numbered.ensures ∙ c.if-is_numbered.true) P h) c.args.db.now c.set_one_definition.result c.set_one_definition.ensures.allowed

pub returns-then-is_numbered-clause-refused : goal.returns-then-is_numbered-clause-refused
returns-then-is_numbered-clause-refused g c = err-spelled (asked.SetMacro c.args.name.now c.args.value.now) c.args.value.now (λ v. edits.ChangeDefinition c.which_of-which.result.name.now c.unwrap_or-number.result (edits.SetsValue v)) (λ v. edits.ChangeDefinition (which_of c.args.name.now).name (edits.number_of (which_of c.args.name.now)) (edits.SetsValue v)) (λ v. ap (λ (k : ℕ). edits.ChangeDefinition c.which_of-which.result.name.now k (edits.SetsValue v)) c.unwrap_or-number.ensures ∙ ap (λ (w : edits.Which). edits.ChangeDefinition w.name (edits.number_of w) (edits.SetsValue v)) c.which_of-which.ensures) (λ P h. of-one-set_macro c.args.name.now c.args.value.now (sym c.is_numbered.ensures ∙ c.if-is_numbered.true) P h) c.args.db.now c.set_one_definition.result c.set_one_definition.ensures.refused
