use Rattle.bib_store.proofs.Words.{List, sym, ◌∙◌, ap, subst, arith, AllByRecursion, AllZip, Macros, months, macros_at, RecordField, View, IsReadable, IsFieldOf}
use Rattle.bib_scan.specs.View.{Field}
use Rattle.bib_store.proofs.EntryItems.{IsEntryAt, entry_at, entry_within}
use Rattle.bib_store.proofs.ReadableFields.{fields_zip, fields_readable, seen_at, gathered_of}
use Rattle.bibtex_lists.proofs.records.gather_entry.Goals as goal

pub macros_at-requires : goal.macros_at-requires
macros_at-requires g c = λ db reads.
    let within = entry_within db c.args.n c.entry_item.result (c.requires.number db reads) (c.entry_item.ensures db reads) in
    omega (arith, within)

pub add_all-requires-clause-readable : goal.add_all-requires-clause-readable
add_all-requires-clause-readable g c =
    let db = c.opens.ensures.0 in
    let reads = c.opens.ensures.1.reads in
    let n = c.args.n in
    let at = entry_at db n (c.requires.number db reads) in
    let it : IsEntryAt db n at.0 = at.1 in
    let seen = seen_at db n c.entry_item.result at.0 it c.macros_at.result (c.entry_item.ensures db reads) (c.macros_at.ensures db reads) in
    subst (λ (macros : Macros). AllByRecursion (IsReadable macros) c.fields.result) (sym seen)
    (subst (λ (fields : List Field). AllByRecursion (IsReadable (macros_at months db.items it.number)) fields) (sym (c.fields.ensures.fields ∙ ap (λ (v : View). v.fields) (c.entry.ensures db reads at.0 it.listed)))
    (fields_readable c.args.db.now db n at.0 reads c.opens.ensures.1.texts it))

pub returns-clause-added : goal.returns-clause-added
returns-clause-added g c = λ db reads.
    let n = c.args.n in
    let at = entry_at db n (c.requires.number db reads) in
    let it : IsEntryAt db n at.0 = at.1 in
    let old : List RecordField = c.args.fields.now.fields.items in
    let seen = seen_at db n c.entry_item.result at.0 it c.macros_at.result (c.entry_item.ensures db reads) (c.macros_at.ensures db reads) in
    let zip : AllZip IsFieldOf c.fields.result it.entry.rows =
    subst (λ (fields : List Field). AllZip IsFieldOf fields it.entry.rows) (sym (c.fields.ensures.fields ∙ ap (λ (v : View). v.fields) (c.entry.ensures db reads at.0 it.listed))) (fields_zip c.args.db.now db n at.0 reads it) in
    gathered_of db n at.0 it old c.add_all.new.self.fields.items c.macros_at.result seen (c.in_ok-add_all.ensures.added it.entry.rows zip)
