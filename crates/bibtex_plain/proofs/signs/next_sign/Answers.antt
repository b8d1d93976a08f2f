use Rattle.bibtex_plain.proofs.SignSteps.{sign_found, no_sign}
use Rattle.bibtex_plain.proofs.signs.next_sign.Goals as goal

pub returns-in-Some : goal.returns-in-Some
returns-in-Some c = sign_found c.args.text.now c.text_from.result.now c.args.from c.in-Some.found c.requires c.text_from.ensures c.in-Some.ensures

pub returns-in-None : goal.returns-in-None
returns-in-None c = no_sign c.args.text.now c.text_from.result.now c.args.from c.text_from.ensures c.in-None.ensures
