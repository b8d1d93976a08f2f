use Rattle.bib_script.proofs.PartedLemmas.{with_return, as_it_is}
use Rattle.bib_script.proofs.lines.without_return.Goals as goal

pub returns-in-len1-up : goal.returns-in-len1-up
returns-in-len1-up c = with_return c.args.line.now c.in-len1-up.len_at_least c.if-last-eq13.true

pub returns-in_default-2 : goal.returns-in_default-2
returns-in_default-2 c = as_it_is c.args.line.now c.in-len1-up.len_at_least c.if-last-eq13.false
