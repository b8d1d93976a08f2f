use Rattle.bib_run.proofs.Words.{sym, ◌∙◌, subst, rules, IfOk-weaker, Text}
use Rattle.std.proofs.Common.{ap₂, ◌-◌, Option}
use Rattle.bib_spec.specs.Reading.{Reads}
use Rattle.bib_journal.specs.declared.fault.SessionFault.{SessionFault}
use Rattle.bib_run.specs.InsertAnswer.{IsGain, HasPutIn, inserted, refused}
use Rattle.bib_run.proofs.commands.insert.try_put.Goals as goal

pub returns-in-Err-clause-put : goal.returns-in-Err-clause-put
returns-in-Err-clause-put c =
    IfOk-weaker c.uninserted.result _ _
    (λ made h. subst (λ (f : Option SessionFault). HasPutIn c.args.position.now c.args.text.now c.args.session.now made.answer f) (sym h.2) (refused c.in-Err.fault h.0 c.in-Err.ensures.refused h.1))
    c.uninserted.ensures

pub returns-clause-put : goal.returns-clause-put
returns-clause-put c =
    let gain : IsGain c.saturating_sub-added.result c.args.session.now.steps.present c.insert.new.self.steps.present = λ db reads db' reads'.
    c.saturating_sub-added.ensures
    ∙ ap₂ (λ a b. a - b)
    (c.entry_count.ensures db' (subst (λ (t : Text). Reads t db') (sym c.database-2.ensures) reads'))
    (c.entry_count-before.ensures db (subst (λ (t : Text). Reads t db) (sym c.database.ensures) reads))
    in
    inserted c.insert.new.self c.in-Ok.saved c.saturating_sub-added.result c.in_default.ensures.inserted c.in-Ok.ensures.saved gain (search rules)
