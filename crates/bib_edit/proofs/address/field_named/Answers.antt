use Rattle.bib_edit.proofs.Words.{tests, rules, find_from_yields_List, field_seen, is_field}
use Rattle.std.proofs.lemmas.Iterator.Consumers.{YieldsList-from_first}
use Rattle.bib_edit.proofs.address.field_named.Goals as goal

pub returns : goal.returns
returns c =
    find_from_yields_List (is_field c.args.name.now) _ _ c.find.result c.find.ensures.ran
    (YieldsList-from_first field_seen (λ fields. fields) c.args.view.now.fields c.fields.ensures.fields) (λ x b q k. search (rules, tests))
