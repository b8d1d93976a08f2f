use Rattle.bib_order.proofs.Words.{take, Lacks}
use Rattle.bib_order.proofs.sheet.position_in.Given as goal

abbrev pub invariant-pass : goal.invariant-pass
invariant-pass l = Lacks (take l.k l.ids) l.id
