use Rattle.ris_format.proofs.Words.{◌≡◌, ◌∙◌, [], ◌∷◌, ap, ap₂, on_ok_weaker, Text, value_at, read_year, read_month, read_pages, field}
use Rattle.std.proofs.Common.{codes}
use Rattle.ris_format.proofs.SectionLaws.{field_put, five_fields}
use Rattle.ris_format.proofs.to_record.push_numbers.Goals as goal

pub returns : goal.returns
returns c =
    let lines = c.args.lines.now in
    let l0 = c.args.fields.now.items in
    let l1 = c.push_field.new.fields.items in
    let l2 = c.push_field-2.new.fields.items in
    let l3 = c.push_field-3.new.fields.items in
    let l4 = c.push_field-4.new.fields.items in
    let l5 = c.push_text.new.fields.items in
    let date = value_at (codes "PY" ∷ codes "Y1" ∷ []) lines in
    let year : c.read_year.result.now ≡ read_year date = c.read_year.ensures ∙ ap (λ (t : Text). read_year t) c.value_at-date.ensures in
    let month : c.read_month.result.now ≡ read_month date = c.read_month.ensures ∙ ap (λ (t : Text). read_month t) c.value_at-date.ensures in
    let pages : c.in_ok-pages.pages ≡ read_pages (value_at (codes "SP" ∷ []) lines) (value_at (codes "EP" ∷ []) lines) =
    c.in_ok-pages.ensures ∙ ap₂ read_pages c.value_at-3.ensures c.value_at-end.ensures in
    on_ok_weaker c.push_text.result
    (λ h. five_fields l0 l1 l2 l3 l4 l5 (field (codes "year") (read_year date)) (field (codes "month") (read_month date)) (field (codes "volume") (value_at (codes "VL" ∷ []) lines))
    (field (codes "number") (value_at (codes "IS" ∷ []) lines)) (field (codes "pages") (read_pages (value_at (codes "SP" ∷ []) lines) (value_at (codes "EP" ∷ []) lines)))
    (field_put l0 l1 (codes "year") c.read_year.result.now (read_year date) c.in_ok-push_field.ensures year)
    (field_put l1 l2 (codes "month") c.read_month.result.now (read_month date) c.in_ok-push_field-2.ensures month)
    (field_put l2 l3 (codes "volume") c.value_at.result.now (value_at (codes "VL" ∷ []) lines) c.in_ok-push_field-3.ensures c.value_at.ensures)
    (field_put l3 l4 (codes "number") c.value_at-2.result.now (value_at (codes "IS" ∷ []) lines) c.in_ok-push_field-4.ensures c.value_at-2.ensures)
    (field_put l4 l5 (codes "pages") c.in_ok-pages.pages (read_pages (value_at (codes "SP" ∷ []) lines) (value_at (codes "EP" ∷ []) lines)) h pages))
    c.push_text.ensures
