use Rattle.ris_text.proofs.LineEnds.{feed_found, no_feed}
use Rattle.ris_text.proofs.lines.line_len.Goals as goal

pub returns-in-Some-clause-len : goal.returns-in-Some-clause-len
returns-in-Some-clause-len c = feed_found c.args.text.now c.in-Some.len c.in-Some.ensures.0 c.in-Some.ensures.1

pub returns-in-None-clause-len : goal.returns-in-None-clause-len
returns-in-None-clause-len c = no_feed c.args.text.now c.in-None.ensures
