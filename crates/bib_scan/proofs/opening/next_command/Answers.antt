use Rattle.bib_scan.proofs.CommandLemmas.{next_found, next_past, next_is, next_end}
use Rattle.bib_scan.proofs.opening.next_command.Goals as goal

pub loop-found-preserved : goal.loop-found-preserved
loop-found-preserved c =
    let here = next_found _ _ _ _ c.loop-found.invariant c.text_from.ensures c.in-Some.ensures in
    next_past _ _ _ here.0 here.1 c.text_from-in-Some.ensures c.if-begins_command.ensures

pub returns-then-begins_command-clause-read : goal.returns-then-begins_command-clause-read
returns-then-begins_command-clause-read c =
    let here = next_found _ _ _ _ c.loop-found.invariant c.text_from.ensures c.in-Some.ensures in
    next_is _ _ _ here.0 c.text_from-in-Some.ensures c.if-begins_command.ensures

pub returns-clause-read : goal.returns-clause-read
returns-clause-read c = next_end _ _ _ c.loop-found.invariant c.text_from.ensures c.in_default.ensures
