use Rattle.bib_fields.proofs.ThreeForms.{and-first, and-second}
use Rattle.bib_fields.proofs.of_three.may_be_ours.Goals as goal

pub returns-then-not-has_value : goal.returns-then-not-has_value
returns-then-not-has_value c mb mo mt eb eo et rows is_b is_o is_t value_is = and-first _ _ _ (c.has_value.ensures mo mo eo rows is_o value_is) c.if-not-has_value.true

pub returns : goal.returns
returns c mb mo mt eb eo et rows is_b is_o is_t value_is = and-second _ _ _ _ (c.has_value.ensures mo mo eo rows is_o value_is) c.if-not-has_value.false (c.in_ok-is.ensures mb mo mt eb eo et is_b is_o is_t)
