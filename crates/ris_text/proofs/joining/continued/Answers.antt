use Rattle.ris_text.proofs.Words.{sym, ap, ◌∙◌, continues}
use Rattle.ris_text.proofs.JoinLemmas.{IsJoined-more, IsJoined-stops}
use Rattle.ris_text.proofs.joining.continued.Goals as goal

pub line-preserved : goal.line-preserved
line-preserved c =
    IsJoined-more _ _ _ _ _ c.in-Some.after _ c.line.invariant c.in-Some.ensures.some (ap continues (sym c.in-Some.ensures.some) ∙ sym c.continues.ensures ∙ c.line-test.true) c.in_ok-join.ensures

pub returns-clause-value : goal.returns-clause-value
returns-clause-value c = c.from_vec.ensures ∙ (IsJoined-stops _ _ _ c.line.rest c.line.invariant (sym c.continues.ensures ∙ c.line-test.false)).0

pub returns-clause-after : goal.returns-clause-after
returns-clause-after c = (IsJoined-stops _ c.line.whole.items _ c.line.rest c.line.invariant (sym c.continues.ensures ∙ c.line-test.false)).1
