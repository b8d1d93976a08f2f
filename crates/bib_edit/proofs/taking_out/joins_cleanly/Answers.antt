use Rattle.bib_edit.proofs.Words.{◌≡◌, ◌↔◌, IsTrue, Text, ◌∙◌, subst, IfOk-weaker, OfReading, JoinsCleanly, trail_at}
use Rattle.bib_edit.specs.Removal.{ContinuesCleanly}
use Rattle.bib_edit.proofs.SeenItems.{trail-seen}
use Rattle.bib_edit.proofs.taking_out.joins_cleanly.Goals as goal

pub returns-clause-clean : goal.returns-clause-clean
returns-clause-clean g c =
    IfOk-weaker c.continues_cleanly.result (λ clean. OfReading c.args.db.now (λ r. IsTrue clean ↔ ContinuesCleanly r c.args.n c.trail.result.now))
    (λ clean. OfReading c.args.db.now (λ r. IsTrue clean ↔ JoinsCleanly r c.args.n))
    (λ clean told db reads.
    let trail : c.trail.result.now ≡ trail_at db.items c.args.n = c.trail.ensures ∙ trail-seen db.items c.args.n _ (c.requires db reads) (c.item.ensures db reads) in
    subst (λ (t : Text). IsTrue clean ↔ ContinuesCleanly db c.args.n t) trail (told db reads))
    c.continues_cleanly.ensures.clean
