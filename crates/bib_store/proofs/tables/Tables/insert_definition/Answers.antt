use Rattle.bib_store.proofs.Words.{◌∙◌, length, sym, subst, err_from_is_err_and, Text, field_seen, Admits}
use Rattle.bib_store.proofs.TableSteps.{definition_insertion, definition_over}
use Rattle.bib_store.proofs.tables.Tables.insert_definition.Goals as goal

pub returns-in_ok-define-in-Some-clause-step : goal.returns-in_ok-define-in-Some-clause-step
returns-in_ok-define-in-Some-clause-step c =
    let first = sym c.fields.ensures.fields ∙ c.in-Some.ensures.steps in
    let done = c.in_ok-define-in-Some.ensures in
    let bounds = done.bounds in
    definition_insertion c.args.self.now c.define.new.self c.args.n c.args.view.now (field_seen c.in-Some.field) c.next.new.self first done.table done.ways done.short
    bounds.0 (subst (λ (b : Text). Admits (length b) bounds.0 c.args.self.now.bounds c.define.new.self.bounds) c.body.ensures bounds.1.0) bounds.1.1

pub returns-in_err-define-in-Some-clause-too_long : goal.returns-in_err-define-in-Some-clause-too_long
returns-in_err-define-in-Some-clause-too_long c =
    let first = sym c.fields.ensures.fields ∙ c.in-Some.ensures.steps in
    let p = err_from_is_err_and c.from_residual.result c.from_residual.ensures.1 in
    rw (p.1, p.2) (λ place is.
    let over = c.in_err-define-in-Some.ensures.too_long place is in
    definition_over c.args.self.now c.args.self.now c.args.n c.args.view.now (field_seen c.in-Some.field) c.next.new.self place first over.0 over.1)
