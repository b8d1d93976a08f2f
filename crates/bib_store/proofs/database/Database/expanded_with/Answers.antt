use Rattle.bib_store.proofs.Words.{◌≡◌, ℕ, List, [], Some, map, option_map, Bor, ◌∙◌, ap, Text, folded, months, macros_at, EntryTexts, Record, entries_of, texts_of, fields_at, chosen}
use Rattle.bib_store.specs.Choosing.{with_chosen}
use Rattle.bib_store.proofs.EntryItems.{IsEntryAt, entry_at}
use Rattle.bib_store.proofs.GatheredFields.{missing_all}
use Rattle.bib_store.proofs.Inherited.{fields_along, expanded_along, record_made}
use Rattle.bib_store.proofs.database.Database.expanded_with.Goals as goal

pub returns-clause-rec : goal.returns-clause-rec
returns-clause-rec g c = λ db reads.
    let entries : List EntryTexts = entries_of db in
    let n = c.args.n in
    let depth = c.args.depth in
    let names : List Text = map (λ (name : Bor (List ℕ)). name.now) c.args.names.now in
    let at = entry_at db n (c.requires.number db reads) in
    let it : IsEntryAt db n at.0 = at.1 in
    let macros = macros_at months db.items it.number in
    let seen = c.entry-entry.ensures db reads at.0 it.listed in
    let kind = c.in_ok-kind_name.ensures ∙ ap folded c.type_name.ensures in
    let key = c.in_ok-key.ensures ∙ c.key.ensures in
    let own : c.choose.new.fields.items ≡ chosen names (fields_at entries n) =
    c.in_ok-choose.ensures.chosen db reads [] c.in_ok-fields.ensures.items ∙ ap (chosen names) (missing_all (fields_at entries n)) in
    let fields : c.from_vec.result ≡ chosen names (fields_along entries depth n) =
    c.from_vec.ensures ∙ c.in_ok-choose_inherited.ensures.chosen db reads (fields_at entries n) own in
    ap (option_map (with_chosen names)) (expanded_along entries depth n (texts_of macros it.entry) it.texts)
    ∙ ap (λ (r : Record). Some r) (record_made at.0 it.entry macros _ _ _ _ _ seen it.is kind key fields)
