use Rattle.std.proofs.Common.{subst}
use Rattle.bib_places.specs.PlacesSeen.{MaySee}
use Rattle.bib_places.proofs.ItemUnits.{item-unit}
use Rattle.bib_places.proofs.side.item_of.Goals as goal

pub returns-in-Some : goal.returns-in-Some
returns-in-Some c r u sees = item-unit r c.in-Some.unit u (subst (λ o. MaySee r o u) c.in-Some.is sees)
