use Rattle.bib_store.proofs.Words.{length, refl, subst, Text, Admits}
use Rattle.bib_store.proofs.PlacedItems.{entry_in_place}
use Rattle.bib_store.proofs.in_place.put_entry.Goals as goal

pub returns-clause-placed : goal.returns-clause-placed
returns-clause-placed c = λ _.
    let said = c.in-Ok-crossref_at.said in
    entry_in_place c.args.n c.args.old.now c.args.new.now c.args.tables.now c.with-tables.result c.in-Ok.was.text said.text said.is_literal (c.if-not-have_one_key.ensures refl) c.in-Ok.ensures.text c.in-Ok-crossref_at.ensures.text
    c.in-Ok-crossref_at.ensures.settled c.in-Ok-crossref_at.ensures.short (c.if-not-say_the_same.ensures refl)
    (subst (λ (b : Text). Admits (length b) said.is_literal c.args.tables.now.bounds c.with-tables.result) c.body.ensures c.with-tables.ensures)
