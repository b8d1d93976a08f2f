use Rattle.bib_store.proofs.Words.{◌∙◌, sym, field_seen, ok_from, err_from}
use Rattle.bib_store.proofs.TableSteps.{preamble_fits, preamble_over}
use Rattle.bib_store.proofs.tables.Tables.measure_preamble.Goals as goal

pub returns-in-Some-clause-short : goal.returns-in-Some-clause-short
returns-in-Some-clause-short c =
    let first = sym c.fields.ensures.fields ∙ c.in-Some.ensures.steps in
    ok_from c.measure_field.result _ _
    (λ short. preamble_fits c.args.self.now c.args.self.now c.args.n c.args.view.now (field_seen c.in-Some.field) c.next.new.self first short)
    c.measure_field.ensures.short

pub returns-in-Some-clause-too_long : goal.returns-in-Some-clause-too_long
returns-in-Some-clause-too_long c =
    let first = sym c.fields.ensures.fields ∙ c.in-Some.ensures.steps in
    err_from c.measure_field.result _ _
    (λ fault h. λ place is.
    preamble_over c.args.self.now c.args.self.now c.args.n c.args.view.now (field_seen c.in-Some.field) c.next.new.self place first (h place is).0 (h place is).1)
    c.measure_field.ensures.too_long
