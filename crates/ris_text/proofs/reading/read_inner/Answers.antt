use Rattle.ris_text.proofs.Words.{length, ap, arith}
use Rattle.ris_text.proofs.ToldLemmas.{length-after, IsInside-known}
use Rattle.ris_text.proofs.reading.read_inner.Goals as goal

pub line-smaller-in-Known : goal.line-smaller-in-Known
line-smaller-in-Known c =
    omega (arith, ap length c.in-Some.ensures.some, ap length c.in_ok-value-in-Known.ensures.after, length-after c.in-Some.after)

pub line-preserved-in-Known : goal.line-preserved-in-Known
line-preserved-in-Known c =
    IsInside-known _ _ _ _ _ c.line.rest c.in-Some.after _ _ _ _ c.line.invariant c.in-Some.ensures.some c.in-Known.is
    c.in_ok-value-in-Known.ensures.value c.in_ok-value-in-Known.ensures.after c.in_ok-push-in-Known.ensures.items
