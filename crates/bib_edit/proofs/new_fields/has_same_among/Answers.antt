use Rattle.bib_edit.proofs.Words.{true, false, sym, ◌∙◌}
use Rattle.bib_edit.proofs.NewFields.{same-first}
use Rattle.bib_edit.proofs.new_fields.has_same_among.Goals as goal

pub returns-then-has_name : goal.returns-then-has_name
returns-then-has_name c =
    sym (sym c.fields.invariant
    ∙ same-first c.fields.rest.now c.in-Some.others.now c.in-Some.first.now c.as_slice.result.now true c.in-Some.ensures.cases.0 c.as_slice.ensures (sym c.has_name.ensures ∙ c.if-has_name.true))

pub fields-preserved : goal.fields-preserved
fields-preserved c =
    sym (same-first c.fields.rest.now c.in-Some.others.now c.in-Some.first.now c.as_slice.result.now false c.in-Some.ensures.cases.0 c.as_slice.ensures (sym c.has_name.ensures ∙ c.if-has_name.false))
    ∙ c.fields.invariant
