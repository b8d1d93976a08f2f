use Rattle.bib_edit.proofs.Words.{ℕ, sym, ◌∙◌, ap}
use Rattle.edit_spec.specs.Edits as edits
use Rattle.bib_data.specs.declared.edit.Edit.TheVariants as asked
use Rattle.bib_edit.specs.Numbers.{which_of}
use Rattle.bib_edit.proofs.AskedEdits.{of-one-undefine_macro}
use Rattle.bib_edit.proofs.ChosenPlans.{ok-chosen, free-chosen, err-chosen}
use Rattle.bib_edit.proofs.choosing.undefine.Goals as goal

pub undefine_macro-requires : goal.undefine_macro-requires
undefine_macro-requires g c = sym c.is_numbered.ensures ∙ c.if-is_numbered.false

pub returns-then-is_numbered-clause-pieces : goal.returns-then-is_numbered-clause-pieces
returns-then-is_numbered-clause-pieces g c = ok-chosen (asked.UndefineMacro c.args.name.now) (edits.ChangeDefinition c.which_of-which.result.name.now c.unwrap_or.result edits.Undefines) (edits.ChangeDefinition (which_of c.args.name.now).name (edits.number_of (which_of c.args.name.now)) edits.Undefines) (ap (λ (k : ℕ). edits.ChangeDefinition c.which_of-which.result.name.now k edits.Undefines) c.unwrap_or.ensures ∙ ap (λ (w : edits.Which). edits.ChangeDefinition w.name (edits.number_of w) edits.Undefines) c.which_of-which.ensures) (λ P h. of-one-undefine_macro c.args.name.now (sym c.is_numbered.ensures ∙ c.if-is_numbered.true) P h) c.args.db.now c.undefine_one.result c.undefine_one.ensures.pieces

pub returns-then-is_numbered-clause-allowed : goal.returns-then-is_numbered-clause-allowed
returns-then-is_numbered-clause-allowed g c = free-chosen (asked.UndefineMacro c.args.name.now) (edits.ChangeDefinition c.which_of-which.result.name.now c.unwrap_or.result edits.Undefines) (edits.ChangeDefinition (which_of c.args.name.now).name (edits.number_of (which_of c.args.name.now)) edits.Undefines) (ap (λ (k : ℕ). edits.ChangeDefinition c.which_of-which.result.name.now k edits.Undefines) c.unwrap_or.ensures ∙ ap (λ (w : edits.Which). edits.ChangeDefinition w.name (edits.number_of w) edits.Undefines) c.which_of-which.ensures) (λ P h. of-one-undefine_macro c.args.name.now (sym c.is_numbered.ensures ∙ c.if-is_numbered.true) P h) c.args.db.now c.undefine_one.result c.undefine_one.ensures.allowed

pub returns-then-is_numbered-clause-refused : goal.returns-then-is_numbered-clause-refused
returns-then-is_numbered-clause-refused g c = err-chosen (asked.UndefineMacro c.args.name.now) (edits.ChangeDefinition c.which_of-which.result.name.now c.unwrap_or.result edits.Undefines) (edits.ChangeDefinition (which_of c.args.name.now).name (edits.number_of (which_of c.args.name.now)) edits.Undefines) (ap (λ (k : ℕ). edits.ChangeDefinition c.which_of-which.result.name.now k edits.Undefines) c.unwrap_or.ensures ∙ ap (λ (w : edits.Which). edits.ChangeDefinition w.name (edits.number_of w) edits.Undefines) c.which_of-which.ensures) (λ P h. of-one-undefine_macro c.args.name.now (sym c.is_numbered.ensures ∙ c.if-is_numbered.true) P h) c.args.db.now c.undefine_one.result c.undefine_one.ensures.refused
