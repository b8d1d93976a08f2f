use Rattle.bib_keys.proofs.Words.{sym}
use Rattle.bib_keys.proofs.taken_keys.TakenKeys.tried.Goals as goal

pub returns-in-Some : goal.returns-in-Some
returns-in-Some c keys are = are.tried c.args.base.now c.in-Some.n.now (sym c.in-Some.ensures)
