use Rattle.bib_edit.proofs.Words.{tests, rules, ◌∙◌, field_seen}
use Rattle.bib_edit.specs.RenamedFields.{has_either}
use Rattle.std.proofs.lemmas.List.Sums.{length-filter}
use Rattle.std.proofs.lemmas.Iterator.Consumers.{YieldsList-from_first, YieldsList-from_filter, count_from_yields_List}
use Rattle.bib_edit.proofs.rename_field.either_count.Goals as goal

pub returns : goal.returns
returns c =
    count_from_yields_List c.filter.result c.count.result c.count.ensures.ran
    (YieldsList-from_filter _ (has_either c.args.from.now c.args.to.now)
    (YieldsList-from_first field_seen (λ fields. fields) c.args.view.now.fields (c.filter.ensures.source ∙ c.fields.ensures.fields)) c.filter.ensures.closure (λ x b q k. search (rules, tests)))
    ∙ length-filter (has_either c.args.from.now c.args.to.now) c.args.view.now.fields
