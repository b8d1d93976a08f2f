use Rattle.bib_merge.specs.Bodies.{bodies_of}
use Rattle.bib_places.proofs.ItemUnits.{item-of}
use Rattle.bib_merge.proofs.ItemsMet.{unit-met}
use Rattle.bib_merge.proofs.meeting.meet_unit.Goals as goal

pub returns-in-Some : goal.returns-in-Some
returns-in-Some c rm reads_m r reads u wanted sees met =
    unit-met r c.in-Some.n u (bodies_of rm) wanted c.meet_item.result (item-of r c.item_of.result c.in-Some.n u c.in-Some.is (c.item_of.ensures.item r u sees))
    (λ i at. c.meet_item.ensures rm reads_m r reads i wanted at met)
