use Rattle.bib_order.proofs.Words.{IsTold}
use Rattle.bib_order.proofs.sheets.set_home.Given as goal

abbrev pub invariant-pass : goal.invariant-pass
invariant-pass l = IsTold l.fn.homes.items l.homes.items
