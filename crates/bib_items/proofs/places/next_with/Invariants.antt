use Rattle.bib_items.proofs.Words.{Item, LacksPart}
use Rattle.bib_items.proofs.Passed.{ArePassedOver}
use Rattle.bib_items.proofs.places.next_with.Given as goal

abbrev pub invariant-pass : goal.invariant-pass
invariant-pass l =
    ArePassedOver (λ (i : Item). LacksPart l.fn.sought i.body) l.pages l.p l.from l.before l.next
    × ArePassedOver (λ (i : Item). LacksPart l.fn.other i.body) l.pages l.p l.from l.before l.next
