use Rattle.ris_format.proofs.Words.{◌∙◌, ◌&&◌, ◌∷◌, sym, ap, refl, list_all, is_plain_field}
use Rattle.ris_format.proofs.LoopSteps.{passed, decided, none_left}
use Rattle.ris_format.proofs.profile.are_plain_fields.Goals as goal

pub loop-field-preserved : goal.loop-field-preserved
loop-field-preserved c =
    passed (list_all is_plain_field) c.args.fields.now c.loop-field.field-index _ _
    (λ rest. ap (λ f. list_all is_plain_field (f ∷ rest)) (sym c.field-item.is) ∙ ap (λ b. b && list_all is_plain_field rest) (sym c.in_ok-is_plain_field.ensures ∙ c.if-not-branch.false))
    c.loop-field-test.true c.loop-field.invariant

pub returns-then-not-branch : goal.returns-then-not-branch
returns-then-not-branch c =
    decided (list_all is_plain_field) c.args.fields.now c.loop-field.field-index _ _ _
    (λ rest. ap (λ f. list_all is_plain_field (f ∷ rest)) (sym c.field-item.is) ∙ ap (λ b. b && list_all is_plain_field rest) (sym c.in_ok-is_plain_field.ensures ∙ c.if-not-branch.true))
    c.loop-field-test.true c.loop-field.invariant

pub returns : goal.returns
returns c = none_left (list_all is_plain_field) c.args.fields.now c.loop-field.field-index _ _ refl c.loop-field-test.false c.loop-field.invariant
