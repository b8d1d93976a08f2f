use Rattle.bib_names.proofs.BalanceLaws.{balances-is}
use Rattle.bib_names.proofs.label.balances.Goals as goal

pub returns : goal.returns
returns c = balances-is c.args.text.now c.is_balanced.result c.is_balanced.ensures.0 c.is_balanced.ensures.1
