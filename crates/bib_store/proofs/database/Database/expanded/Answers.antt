use Rattle.bib_store.proofs.Words.{◌≡◌, List, ◌++◌, Some, ◌∙◌, ap, folded, months, macros_at, RecordField, EntryTexts, Record, entries_of, texts_of, fields_at, missing}
use Rattle.bib_store.proofs.EntryItems.{IsEntryAt, entry_at}
use Rattle.bib_store.proofs.GatheredFields.{missing_all}
use Rattle.bib_store.proofs.Inherited.{fields_along, expanded_along, with_lineage, record_made}
use Rattle.bib_store.proofs.database.Database.expanded.Goals as goal

pub returns-clause-rec : goal.returns-clause-rec
returns-clause-rec g c = λ db reads.
    let entries : List EntryTexts = entries_of db in
    let n = c.args.n in
    let depth = c.args.depth in
    let at = entry_at db n (c.requires.number db reads) in
    let it : IsEntryAt db n at.0 = at.1 in
    let macros = macros_at months db.items it.number in
    let seen = c.entry-entry.ensures db reads at.0 it.listed in
    let kind = c.in_ok-kind_name.ensures ∙ ap folded c.type_name.ensures in
    let key = c.in_ok-key.ensures ∙ c.key.ensures in
    let own : c.gather.new.fields.fields.items ≡ fields_at entries n =
    c.in_ok-gather.ensures.added db reads ∙ ap (λ (l : List RecordField). l ++ missing l (fields_at entries n)) c.in_ok-fields.ensures.fields ∙ missing_all (fields_at entries n) in
    let fields : c.into_fields.result ≡ fields_along entries depth n =
    c.into_fields.ensures ∙ c.in_ok-gather_inherited.ensures.added db reads ∙ ap (with_lineage entries depth n) own in
    expanded_along entries depth n (texts_of macros it.entry) it.texts
    ∙ ap (λ (r : Record). Some r) (record_made at.0 it.entry macros _ _ _ _ _ seen it.is kind key fields)
