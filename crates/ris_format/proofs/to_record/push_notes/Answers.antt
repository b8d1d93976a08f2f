use Rattle.ris_format.proofs.Words.{[], ◌∷◌, on_ok_weaker, values_at, value_at, read_keywords, field}
use Rattle.std.proofs.Common.{codes}
use Rattle.ris_format.proofs.SectionLaws.{field_put, five_fields}
use Rattle.ris_format.proofs.to_record.push_notes.Goals as goal

pub returns : goal.returns
returns c =
    let lines = c.args.lines.now in
    let l0 = c.args.fields.now.items in
    let l1 = c.push_field.new.fields.items in
    let l2 = c.push_field-2.new.fields.items in
    let l3 = c.push_field-3.new.fields.items in
    let l4 = c.push_field-4.new.fields.items in
    let l5 = c.push_keywords.new.fields.items in
    let url = value_at (codes "UR" ∷ []) lines in
    let doi = value_at (codes "DO" ∷ []) lines in
    let summary = value_at (codes "AB" ∷ codes "N2" ∷ []) lines in
    let note = value_at (codes "N1" ∷ []) lines in
    let words = values_at (codes "KW" ∷ []) lines in
    on_ok_weaker c.push_keywords.result
    (λ h. five_fields l0 l1 l2 l3 l4 l5 (field (codes "url") url) (field (codes "doi") doi) (field (codes "abstract") summary)
    (field (codes "note") note) (field (codes "keywords") (read_keywords words))
    (field_put l0 l1 (codes "url") c.value_at.result.now url c.in_ok-push_field.ensures c.value_at.ensures)
    (field_put l1 l2 (codes "doi") c.value_at-2.result.now doi c.in_ok-push_field-2.ensures c.value_at-2.ensures)
    (field_put l2 l3 (codes "abstract") c.value_at-3.result.now summary c.in_ok-push_field-3.ensures c.value_at-3.ensures)
    (field_put l3 l4 (codes "note") c.value_at-4.result.now note c.in_ok-push_field-4.ensures c.value_at-4.ensures)
    h)
    c.push_keywords.ensures
