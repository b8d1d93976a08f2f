use Rattle.bib_edit.proofs.Words.{sym, ◌∙◌, ap, is_name}
use Rattle.bib_edit.proofs.NewFields.{all-fails}
use Rattle.bib_edit.proofs.new_fields.are_named.Goals as goal

pub returns-then-not-is_name : goal.returns-then-not-is_name
returns-then-not-is_name c =
    sym (all-fails is_name c.args.fields.now c.loop-field.field-index c.field-item.result c.loop-field-test.true c.field-item.is (ap is_name (sym c.as_slice.ensures) ∙ sym c.is_name.ensures ∙ c.if-not-is_name.true))
