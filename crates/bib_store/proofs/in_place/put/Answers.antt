use Rattle.bib_store.proofs.Words.{◌∙◌, sym, same_text}
use Rattle.bib_store.proofs.PlacedItems.{same_in_place}
use Rattle.bib_store.proofs.in_place.put.Goals as goal

pub returns-then-eq-clause-placed : goal.returns-then-eq-clause-placed
returns-then-eq-clause-placed c = λ _.
    same_in_place c.args.n c.args.old.now c.args.new.now c.args.tables.now
    (sym c.body.ensures ∙ same_text c.body.result.now c.body-2.result.now (sym c.if-eq.true ∙ c.eq.ensures) ∙ c.body-2.ensures)
