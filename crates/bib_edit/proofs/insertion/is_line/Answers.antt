use Rattle.bib_edit.proofs.Words.{sym}
use Rattle.bib_edit.proofs.LineEnds.{ends-byte}
use Rattle.bib_edit.proofs.insertion.is_line.Goals as goal

pub returns-in-Some : goal.returns-in-Some
returns-in-Some c = ends-byte c.args.text.now c.in-Some.byte.now (sym c.in-Some.ensures.value)
