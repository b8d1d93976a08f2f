use Rattle.bib_store.proofs.Words.{◌∙◌, refl, sym, field_seen, Tables}
use Rattle.bib_store.proofs.TableSteps.{definition_removal}
use Rattle.bib_store.proofs.tables.Tables.remove_definition.Goals as goal

pub returns-in-Some-clause-step : goal.returns-in-Some-clause-step
returns-in-Some-clause-step c =
    let old = c.args.self.now in
    let new : Tables = record { file_len = old.file_len; entries = c.close.new.self; preambles = c.close-in-Some.new.self; named = old.named; definitions = c.remove.new.self; bounds = old.bounds } in
    definition_removal old new c.args.n c.args.view.now (field_seen c.in-Some.field) c.next.new.self (sym c.fields.ensures.fields ∙ c.in-Some.ensures.steps)
    c.close.ensures.moved c.close-in-Some.ensures.moved c.remove.ensures.go refl refl
