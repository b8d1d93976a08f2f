use Rattle.bib_store.proofs.Words.{◌∙◌, ◌≤◌, length, ap, subst, Text, Macros, raw_text, raw_limit, own_text}
use Rattle.bib_store.proofs.tables.Tables.definition_text.Goals as goal

pub returns-in-Ok-clause-short : goal.returns-in-Ok-clause-short
returns-in-Ok-clause-short c v is e =
    subst (λ (text : Text). length text ≤ raw_limit) (c.in-Ok.ensures.text v is e ∙ ap (λ (m : Macros). raw_text (own_text m c.args.field.name.now) v) c.at.ensures) c.in-Ok.ensures.short
