-- How the ids of an order are kept.
use Rattle.std.specs.Prelude.{ℕ, List}
use Rattle.bib_order.specs.declared.order.Ids.{Ids}
use Rattle.bib_order.specs.declared.order.Ids.TheVariants.{Listed, Paged}
use Rattle.bib_order.specs.Orders.{IsDistinct, Ascend}

-- the ids in order, whichever way they are kept
abbrev pub ids_of : Ids → List ℕ
ids_of (Listed ids) = ids
ids_of (Paged ids) = ids

-- ids in a list ascend, and ids in pages are distinct
abbrev pub AreKept : Ids → Type 0
AreKept (Listed ids) = Ascend ids
AreKept (Paged ids) = IsDistinct ids
