use Rattle.bib_answers.proofs.Words.{take, AreMarks}
use Rattle.bib_answers.proofs.cite.marks.Given as goal

abbrev pub invariant-mark : goal.invariant-mark
invariant-mark l = AreMarks l.count (take l.n-index l.list) l.marks.items
