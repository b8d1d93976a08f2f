-- The ids that are kept.
use Rattle.bib_order.proofs.Words.{IsDistinct, ids_of, AreKept}
use Rattle.bib_order.specs.declared.order.Ids.{Ids}
use Rattle.bib_order.specs.declared.order.Ids.TheVariants.{Listed, Paged}
use Rattle.bib_order.proofs.Ascending.{ascend_distinct}

pub kept_distinct : (ids : Ids) → AreKept ids → IsDistinct (ids_of ids)
kept_distinct (Listed ids) up = ascend_distinct ids up
kept_distinct (Paged ids) distinct = distinct
