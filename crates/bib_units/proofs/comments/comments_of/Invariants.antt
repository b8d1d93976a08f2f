use Rattle.bib_store.specs.Readings.{OfReading}
use Rattle.bib_units.proofs.CommentsGathered.{AreCommentsTo}
use Rattle.bib_units.proofs.comments.comments_of.Given as goal

abbrev pub invariant-items : goal.invariant-items
invariant-items g l = OfReading l.db (λ r. AreCommentsTo r l.n l.out.items)
