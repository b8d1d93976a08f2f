use Rattle.bib_store.proofs.Words.{sym, subst, Text, Reads, ok_from}
use Rattle.bib_store.proofs.PlacedFiles.{one_exchanged}
use Rattle.bib_store.proofs.exchanging.exchange_one.Goals as goal

pub returns-clause-items : goal.returns-clause-items
returns-clause-items g c =
    ok_from c.replace.result _ _ (λ put.
    one_exchanged c.args.change.now (g.L.ItemList.items c.args.items.now) (g.L.ItemList.items c.replace.new.self) c.body-body.result.now c.trail-trail.result.now c.requires.window c.requires.layout c.requires.one_goes c.requires.one_comes
    (λ db i reads at. c.body-body.ensures db i (subst (λ (t : Text). Reads t db) (sym c.as_slice-text.ensures) reads) at)
    (λ db i reads at. c.trail-trail.ensures db i (subst (λ (t : Text). Reads t db) (sym c.as_slice-text.ensures) reads) at) put)
    c.replace.ensures.ok
