use Rattle.ris_format.proofs.Words.{◌∙◌, sym, ap, arith, drop_all, are_in_order}
use Rattle.std.proofs.Common.{map}
use Rattle.ris_format.proofs.OrderLaws.{order-left}
use Rattle.ris_format.proofs.profile.are_in_order.Goals as goal

pub returns : goal.returns
returns c =
    let rest = c.loop-name.rest.now in
    let none = drop_all c.loop-name.name-index c.args.names.now (omega (arith, c.loop-name-test.false)) in
    c.is_empty.ensures ∙ order-left rest ∙ ap (λ ns. are_in_order (map (λ n. n.now) ns) rest) (sym none) ∙ c.loop-name.invariant
