use Rattle.bib_edit.proofs.BracedTexts.{braced_value}
use Rattle.bib_edit.proofs.values.is_braced.Goals as goal

pub returns-in-Some : goal.returns-in-Some
returns-in-Some c is = braced_value c.args.text.now c.in-Some.inside.now c.in-Some.ensures (c.is_balanced.ensures.0 is)
