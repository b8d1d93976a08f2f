use Rattle.bib_fields.proofs.ThreeForms.{conflict-none, conflict-left}
use Rattle.bib_fields.proofs.of_three.is_in_conflict.Goals as goal

pub returns-then-branch : goal.returns-then-branch
returns-then-branch c mb mo mt eb eo et is_b is_o is_t = conflict-none _ _ _ (c.in_ok-is_ours.ensures mb mo mt eb eo et is_b is_o is_t) c.if-branch.true

pub returns : goal.returns
returns c mb mo mt eb eo et is_b is_o is_t = conflict-left _ _ _ _ (c.in_ok-is_ours.ensures mb mo mt eb eo et is_b is_o is_t) c.if-branch.false (c.in_ok-left.ensures mb mo eb eo is_b is_o)
