use Rattle.std.proofs.Common.{refl, sym, ◌∙◌}
use Rattle.bib_fields.proofs.RowFields.{field-there, mixed-field}
use Rattle.bib_fields.proofs.checking.mixed_field.Goals as goal

pub returns-in-Some-Some : goal.returns-in-Some-Some
returns-in-Some-Some c o t are_o are_t =
    mixed-field o t c.args.row.now c.in-Some-Some.start c.in-Some-Some.value _
    (field-there c.args.ours.now c.args.theirs.now _ o t c.args.row.now.start c.in-Some-Some.start are_o are_t refl (sym c.field_at.ensures ∙ c.in-Some-Some.is-0))
    (field-there c.args.ours.now c.args.theirs.now _ o t c.args.row.now.value c.in-Some-Some.value are_o are_t refl (sym c.field_at-2.ensures ∙ c.in-Some-Some.is-1))
    refl refl
