use Rattle.ris_format.proofs.Words.{[], ◌∷◌, on_ok_weaker, values_at, value_at, read_people, field}
use Rattle.std.proofs.Common.{codes}
use Rattle.ris_format.proofs.SectionLaws.{field_put, three_fields}
use Rattle.ris_format.proofs.to_record.push_names.Goals as goal

pub returns : goal.returns
returns c =
    let lines = c.args.lines.now in
    let before = c.args.fields.now.items in
    let with_author = c.push_people.new.fields.items in
    let with_editor = c.push_people-2.new.fields.items in
    let authors = read_people (values_at (codes "AU" ∷ codes "A1" ∷ []) lines) in
    let editors = read_people (values_at (codes "A2" ∷ codes "ED" ∷ []) lines) in
    let title = value_at (codes "TI" ∷ codes "T1" ∷ []) lines in
    on_ok_weaker c.push_field.result
    (λ h. three_fields before with_author with_editor c.push_field.new.fields.items (field (codes "author") authors) (field (codes "editor") editors) (field (codes "title") title)
    c.in_ok-push_people.ensures c.in_ok-push_people-2.ensures
    (field_put with_editor c.push_field.new.fields.items (codes "title") c.value_at.result.now title h c.value_at.ensures))
    c.push_field.ensures
