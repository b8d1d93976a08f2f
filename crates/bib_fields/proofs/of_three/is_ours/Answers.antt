use Rattle.bib_fields.proofs.ThreeForms.{or-first, or-second}
use Rattle.bib_fields.proofs.of_three.is_ours.Goals as goal

pub returns-then-branch : goal.returns-then-branch
returns-then-branch c mb mo mt eb eo et is_b is_o is_t = or-first _ _ _ (c.in_ok-agree_on.ensures mb mt eb et is_b is_t) c.if-branch.true

pub returns : goal.returns
returns c mb mo mt eb eo et is_b is_o is_t = or-second _ _ _ _ (c.in_ok-agree_on.ensures mb mt eb et is_b is_t) c.if-branch.false (c.in_ok-same.ensures mo mt eo et is_o is_t)
