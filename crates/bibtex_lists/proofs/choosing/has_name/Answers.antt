use Rattle.bib_store.proofs.Words.{rules, tests, YieldsList-from_slice, any_from_yields_List, same, RecordField}
use Rattle.bibtex_lists.proofs.choosing.has_name.Goals as goal

pub returns : goal.returns
returns c =
    any_from_yields_List (λ (field : RecordField). same field.0 c.args.name.now) _ _ _ c.any.ensures.ran (YieldsList-from_slice c.args.fields.now cc) (λ x b q k. search (rules, tests))
