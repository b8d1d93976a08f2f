use Rattle.bib_store.proofs.Words.{◌∙◌, ℕ, List, [], map, Bor, ap, RecordField, entries_of, fields_at, chosen}
use Rattle.bib_store.proofs.GatheredFields.{missing_all}
use Rattle.bib_store.proofs.database.Database.own_fields_with.Goals as goal

pub returns-clause-fields : goal.returns-clause-fields
returns-clause-fields g c db reads =
    c.from_vec.ensures
    ∙ c.in_ok-choose.ensures.chosen db reads [] c.in_ok-fields.ensures.items
    ∙ ap (λ (fields : List RecordField). chosen (map (λ (name : Bor (List ℕ)). name.now) c.args.names.now) fields) (missing_all (fields_at (entries_of db) c.args.n))
