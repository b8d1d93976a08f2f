use Rattle.bib_store.proofs.Words.{length, true, refl, subst, Text, Admits}
use Rattle.bib_store.proofs.PlacedItems.{preamble_in_place}
use Rattle.bib_store.proofs.in_place.put_preamble.Goals as goal

pub returns-in-Ok-clause-placed : goal.returns-in-Ok-clause-placed
returns-in-Ok-clause-placed c = λ _.
    preamble_in_place c.args.n c.args.old.now c.args.new.now c.args.tables.now c.with-tables.result (c.if-not-are_both.ensures.old refl) (c.if-not-are_both.ensures.new refl)
    (subst (λ (b : Text). Admits (length b) true c.args.tables.now.bounds c.with-tables.result) c.body.ensures c.with-tables.ensures) c.in-Ok.ensures.short
