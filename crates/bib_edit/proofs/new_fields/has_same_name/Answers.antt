use Rattle.bib_edit.proofs.Words.{◌≡◌, false, true, is_some, sym, ◌∙◌, ap, folded, value_at, copied-some}
use Rattle.bib_edit.proofs.SeenNames.{seen-found, seen-more}
use Rattle.bib_edit.proofs.NewFields.{name-at, name-short}
use Rattle.bib_edit.proofs.new_fields.has_same_name.Goals as goal

pub returns-then-is_some : goal.returns-then-is_some
returns-then-is_some c =
    let found : is_some (value_at c.loop-field.seen (folded c.field-item.result.0)) ≡ true =
    ap (λ t. is_some (value_at c.loop-field.seen (folded t))) (sym c.as_slice-name.ensures) ∙ ap is_some (sym c.get.ensures) ∙ copied-some c.get.result ∙ sym c.is_some.ensures ∙ c.if-is_some.true in
    sym (seen-found (λ field. field.0) c.args.fields.now c.loop-field.field-index c.loop-field.seen c.field-item.result c.loop-field.invariant c.loop-field-test.true c.field-item.is found)

pub insert-requires : goal.insert-requires
insert-requires c = name-short c.as_slice-name.result.now
    (rw c.as_slice-name.ensures (name-at c.args.fields.now c.loop-field.field-index c.field-item.result c.loop-field-test.true c.field-item.is c.requires))

pub loop-field-preserved : goal.loop-field-preserved
loop-field-preserved c =
    let missing : is_some (value_at c.loop-field.seen (folded c.field-item.result.0)) ≡ false =
    ap (λ t. is_some (value_at c.loop-field.seen (folded t))) (sym c.as_slice-name.ensures) ∙ ap is_some (sym c.get.ensures) ∙ copied-some c.get.result ∙ sym c.is_some.ensures ∙ c.if-is_some.false in
    seen-more (λ field. field.0) c.args.fields.now c.loop-field.field-index c.loop-field.seen c.field-item.result c.loop-field.invariant c.loop-field-test.true c.field-item.is true c.insert.new.self missing
    (rw c.as_slice-name.ensures at c.in_ok-insert.ensures.ok)
