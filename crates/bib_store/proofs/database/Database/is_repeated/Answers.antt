use Rattle.bib_store.proofs.Words.{ℕ, false, nat_lt, Option, sym, ap, ◌∙◌, option_map_or, months, macros_at, texts_of, entries_of, entry_named}
use Rattle.bib_store.proofs.EntryItems.{entry_at, key_seen}
use Rattle.bib_store.proofs.RepeatedKeys.{repeated-first}
use Rattle.bib_store.proofs.database.Database.is_repeated.Goals as goal

pub returns-in-Ok : goal.returns-in-Ok
returns-in-Ok g c = λ db r.
    let e = entry_at db c.args.n (c.requires db r) in
    let key = key_seen db c.args.n e.0 e.1 c.key.result.now c.entry.result c.key.ensures (c.entry.ensures db r e.0 e.1.listed) in
    ap (λ (o : Option ℕ). option_map_or (λ m. nat_lt m c.args.n) o false) (sym (c.in-Ok.ensures.found db r) ∙ ap (entry_named (entries_of db)) key)
    ∙ sym (repeated-first (entries_of db) c.args.n (texts_of (macros_at months db.items e.1.number) e.1.entry) e.1.texts)

pub returns-in-Err : goal.returns-in-Err
returns-in-Err g c = λ db r.
    let e = entry_at db c.args.n (c.requires db r) in
    let key = key_seen db c.args.n e.0 e.1 c.key.result.now c.entry.result c.key.ensures (c.entry.ensures db r e.0 e.1.listed) in
    ap (λ (o : Option ℕ). option_map_or (λ m. nat_lt m c.args.n) o false) (sym (c.in-Err.ensures.none.1 db r) ∙ ap (entry_named (entries_of db)) key)
    ∙ sym (repeated-first (entries_of db) c.args.n (texts_of (macros_at months db.items e.1.number) e.1.entry) e.1.texts)
