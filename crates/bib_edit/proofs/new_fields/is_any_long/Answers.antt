use Rattle.bib_edit.proofs.Words.{sym, ◌∙◌}
use Rattle.bib_edit.proofs.NewFields.{short-more, stands}
use Rattle.bib_edit.proofs.new_fields.is_any_long.Goals as goal

pub is_long-requires-clause-value : goal.is_long-requires-clause-value
is_long-requires-clause-value g c =
    rw c.as_slice.ensures (c.requires.values c.loop-field.field-index c.field-item.result c.loop-field-test.true
    (stands c.args.fields.now c.loop-field.field-index c.field-item.result c.loop-field-test.true c.field-item.is))

pub returns-then-branch-clause-long : goal.returns-then-branch-clause-long
returns-then-branch-clause-long g c db reads = (
  c.loop-field.field-index,
  c.field-item.result,
  stands c.args.fields.now c.loop-field.field-index c.field-item.result c.loop-field-test.true c.field-item.is,
  λ v is e. c.in_ok-is_long.ensures.long db reads v is (e ∙ sym c.as_slice.ensures) ∙ c.if-branch.true,
)

pub loop-field-preserved : goal.loop-field-preserved
loop-field-preserved g c db reads =
    short-more c.args.fields.now c.loop-field.field-index c.field-item.result c.loop-field-test.true c.field-item.is db c.args.n (c.loop-field.invariant db reads)
    (λ v is e. c.in_ok-is_long.ensures.long db reads v is (e ∙ sym c.as_slice.ensures) ∙ c.if-branch.false)
