use Rattle.bib_items.proofs.Words.{KeepsMarks}
use Rattle.bib_items.proofs.PartMarks.{HaveFirst}
use Rattle.bib_items.proofs.marking.Marks.add_parts.Given as goal

abbrev pub invariant-parts : goal.invariant-parts
invariant-parts l = KeepsMarks l.initial.self l.self × HaveFirst l.self l.value l.n
