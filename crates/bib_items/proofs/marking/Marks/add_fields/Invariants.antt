use Rattle.bib_items.proofs.Words.{length, KeepsMarks}
use Rattle.bib_items.proofs.PartMarks.{HaveFieldsSoFar}
use Rattle.bib_items.proofs.marking.Marks.add_fields.Given as goal

abbrev pub invariant-fields : goal.invariant-fields
invariant-fields l = KeepsMarks l.initial.self l.self × HaveFieldsSoFar l.initial.rest l.rest l.self

abbrev pub decreases-fields : goal.decreases-fields
decreases-fields l = length l.rest
