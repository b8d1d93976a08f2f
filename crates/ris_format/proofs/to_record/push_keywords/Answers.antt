use Rattle.ris_format.proofs.Words.{◌≡◌, ◌∙◌, [], ◌∷◌, ap, on_ok_weaker, Text, values_at, read_keywords}
use Rattle.std.proofs.Common.{List, codes, map}
use Rattle.ris_format.proofs.SectionLaws.{field_put}
use Rattle.ris_format.proofs.to_record.push_keywords.Goals as goal

pub returns : goal.returns
returns c =
    let words = values_at (codes "KW" ∷ []) c.args.lines.now in
    let told : c.in_ok-keywords.keywords ≡ read_keywords words =
    c.in_ok-keywords.ensures ∙ ap (λ (ws : List Text). read_keywords ws) (ap (map (λ v. v.now)) c.as_slice.ensures.value ∙ c.in_ok-words.ensures) in
    on_ok_weaker c.push_text.result (λ h. field_put c.args.fields.now.items c.push_text.new.fields.items (codes "keywords") c.in_ok-keywords.keywords (read_keywords words) h told) c.push_text.ensures
