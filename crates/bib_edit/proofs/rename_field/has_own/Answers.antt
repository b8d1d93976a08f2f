use Rattle.bib_edit.proofs.Words.{tests, rules, ◌∙◌, sym, ap, list_any, any_from_yields_List, field_seen, is_field}
use Rattle.bib_edit.specs.RenamedFields.{entry_fields}
use Rattle.std.proofs.lemmas.Iterator.Consumers.{YieldsList-from_first}
use Rattle.bib_edit.proofs.rename_field.has_own.Goals as goal

pub returns-in-Entry : goal.returns-in-Entry
returns-in-Entry c =
    any_from_yields_List (is_field c.args.name.now) _ _ _ c.any.ensures.ran
    (YieldsList-from_first field_seen (λ fields. fields) c.args.view.now.fields c.fields.ensures.fields) (λ x b q k. search (rules, tests))
    ∙ ap (λ k. list_any (is_field c.args.name.now) (entry_fields k c.args.view.now.fields)) (sym c.in-Entry.is ∙ c.kind.ensures)
