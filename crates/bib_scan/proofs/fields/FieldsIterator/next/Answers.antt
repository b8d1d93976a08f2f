use Rattle.bib_scan.proofs.Words.{◌∷◌, ◌∙◌, sym, ap, arith, length, Field, all_fields_left, Kind}
use Rattle.bib_scan.specs.View.{field_seen}
use Rattle.bib_scan.proofs.StepLaws.{field_last, field_step}
use Rattle.bib_scan.proofs.fields.FieldsIterator.next.Goals as goal

pub returns-in_err-field-clause-steps : goal.returns-in_err-field-clause-steps
returns-in_err-field-clause-steps c =
    let none = sym c.self.view_is ∙ field_last c.self.inside.kind c.self.inside.body_len c.self.inside.rest.now (sym c.in_err-field.ensures.read) in
    rw c.from_residual.ensures (none, none)

pub returns-clause-steps : goal.returns-clause-steps
returns-clause-steps c =
    let f = field_seen c.in_ok-field.field in
    sym c.self.view_is
    ∙ field_step c.self.inside.kind c.self.inside.body_len c.self.inside.rest.now (f, c.in_ok-field.rest.now) (sym c.in_ok-field.ensures.read) c.in_ok-field.ensures.shorter
    ∙ ap (λ (k : Kind). f ∷ all_fields_left k c.self.inside.body_len c.in_ok-field.rest.now) (sym c.after_field-self-inside.ensures)

pub returns-clause-goes : goal.returns-clause-goes
returns-clause-goes c =
    let step = returns-clause-steps c in
    record { on = λ finite. (tt, tt, omega (arith, ap (length {A = Field}) step)); keeps = tt; rests = λ finite. tt }
