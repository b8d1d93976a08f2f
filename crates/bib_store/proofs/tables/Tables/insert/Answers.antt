use Rattle.bib_store.proofs.Words.{◌∙◌, sym, ap, View, err_from}
use Rattle.bib_store.proofs.tables.Tables.insert.Goals as goal

pub returns-in-Entry-clause-too_long : goal.returns-in-Entry-clause-too_long
returns-in-Entry-clause-too_long c = err_from c.insert_entry.result _ _
    (λ fault long place is tree good seen. long place is tree good (sym (ap (λ (v : View). v.kind) seen) ∙ sym c.kind.ensures ∙ c.in-Entry.is) seen)
    c.insert_entry.ensures.too_long

pub returns-in-Macro-clause-too_long : goal.returns-in-Macro-clause-too_long
returns-in-Macro-clause-too_long c = err_from c.insert_definition.result _ _
    (λ fault long place is tree good seen. long place is tree good (sym (ap (λ (v : View). v.kind) seen) ∙ sym c.kind.ensures ∙ c.in-Macro.is) seen)
    c.insert_definition.ensures.too_long

pub returns-in-Preamble-clause-too_long : goal.returns-in-Preamble-clause-too_long
returns-in-Preamble-clause-too_long c = err_from c.insert_preamble.result _ _
    (λ fault long place is tree good seen. long place is tree good (sym (ap (λ (v : View). v.kind) seen) ∙ sym c.kind.ensures ∙ c.in-Preamble.is) seen)
    c.insert_preamble.ensures.too_long
