use Rattle.ris_format.proofs.Words.{◌≡◌, ◌∙◌, false, [], ◌∷◌, ◌++◌, sym, ap, cond-false, on_ok_weaker, Text, is_article, value_at, Fields, field, has_text}
use Rattle.std.proofs.Common.{codes}
use Rattle.std.specs.Prelude.{filter}
use Rattle.ris_format.proofs.to_record.push_booktitle.Goals as goal

pub returns : goal.returns
returns c =
    let before = c.args.fields.now.items in
    let one = field (codes "booktitle") (value_at (codes "T2" ∷ []) c.args.lines.now) ∷ [] in
    let none : is_article c.args.kind ≡ false = sym c.is_article.ensures ∙ c.if-is_article.false in
    on_ok_weaker c.push_field.result
    (λ h. h ∙ ap (λ (t : Text). before ++ filter has_text (field (codes "booktitle") t ∷ [])) c.value_at.ensures
    ∙ ap (λ (fs : Fields). before ++ filter has_text fs) (sym (cond-false (is_article c.args.kind) [] one none)))
    c.push_field.ensures
