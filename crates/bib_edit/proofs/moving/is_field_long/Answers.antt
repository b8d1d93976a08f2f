use Rattle.bib_edit.proofs.Words.{true, false, sym, subst, inl, field_seen, IsLong, FieldsHaveValues, IsFieldLong}
use Rattle.bib_edit.proofs.MovedTexts.{no-field-long, field-short}
use Rattle.bib_edit.proofs.moving.is_field_long.Goals as goal

pub is_long-requires-clause-value : goal.is_long-requires-clause-value
is_long-requires-clause-value g c = (subst FieldsHaveValues c.in-Some.ensures.steps c.fields.invariant.0).0

pub returns-then-branch-clause-long : goal.returns-then-branch-clause-long
returns-then-branch-clause-long g c db reads =
    c.fields.invariant.1 db reads true (subst (IsFieldLong true db c.args.n) (sym c.in-Some.ensures.steps) (inl (subst (λ b. IsLong b db c.args.n c.in-Some.field.value.now) c.if-branch.true (c.in_ok-is_long.ensures.long db reads))))

pub fields-preserved : goal.fields-preserved
fields-preserved g c = (
  (subst FieldsHaveValues c.in-Some.ensures.steps c.fields.invariant.0).1,
  λ db reads long h.
      c.fields.invariant.1 db reads long (subst (IsFieldLong long db c.args.n) (sym c.in-Some.ensures.steps)
      (field-short db c.args.n (field_seen c.in-Some.field) c.next.new.self (subst (λ b. IsLong b db c.args.n c.in-Some.field.value.now) c.if-branch.false (c.in_ok-is_long.ensures.long db reads)) long h)),
)

pub returns-clause-long : goal.returns-clause-long
returns-clause-long g c db reads =
    c.fields.invariant.1 db reads false (no-field-long db c.args.n c.fields.rest c.in_default.ensures.steps.0)
