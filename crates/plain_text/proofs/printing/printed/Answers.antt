use Rattle.std.proofs.Common.{◌≡◌, ◌≤◌, [], length, rules}
use Rattle.plain_text.proofs.PlainLemmas.{IsPrinted-none, IsPrinted-more}
use Rattle.plain_text.proofs.printing.printed.Goals as goal

pub steps-init : goal.steps-init
steps-init c =
    let none : c.in_ok-out.out.items ≡ [] = search rules in
    IsPrinted-none c.args.text.now c.in_ok-out.out.items none

pub steps-preserved : goal.steps-preserved
steps-preserved c =
    let some : 1 ≤ length c.steps.rest.now = search rules in
    IsPrinted-more c.args.text.now c.steps.out.items c.push_step.new.out.items c.steps.rest.now c.split_at.result.1.now c.steps.stays c.steps.depth c.in_ok-next.next
    c.steps.invariant some c.in_ok-next.ensures.text c.in_ok-next.ensures.next c.split_at.ensures.back c.in_ok-next.ensures.some c.in_ok-next.ensures.within c.in_ok-next.ensures.depth
