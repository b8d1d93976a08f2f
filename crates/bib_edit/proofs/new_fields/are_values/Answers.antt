use Rattle.bib_edit.proofs.Words.{sym, subst, both_ways, false≢true, name_limit, Text, IsValueWithin}
use Rattle.bib_edit.proofs.NewFields.{values-more, stands}
use Rattle.bib_edit.proofs.new_fields.are_values.Goals as goal

pub returns-then-not-branch : goal.returns-then-not-branch
returns-then-not-branch c = (
  λ h. absurd (false≢true h),
  λ have. absurd (both_ways c.in_ok-is_value.field-0 c.if-not-branch.true (c.in_ok-is_value.ensures.1 (subst (λ (t : Text). IsValueWithin name_limit t) (sym c.as_slice.ensures)
      (have c.loop-field.field-index c.field-item.result c.loop-field-test.true (stands c.args.fields.now c.loop-field.field-index c.field-item.result c.loop-field-test.true c.field-item.is))))),
)

pub loop-field-preserved : goal.loop-field-preserved
loop-field-preserved c =
    values-more c.args.fields.now c.loop-field.field-index c.field-item.result c.loop-field-test.true c.field-item.is c.loop-field.invariant
    (subst (λ (t : Text). IsValueWithin name_limit t) c.as_slice.ensures (c.in_ok-is_value.ensures.0 c.if-not-branch.false))
