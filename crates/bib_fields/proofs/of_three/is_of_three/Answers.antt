use Rattle.std.proofs.Common.{◌∙◌, ap}
use Rattle.std.specs.Option.{option_copied}
use Rattle.bib_fields.proofs.ThreeForms.{or-first, or-second}
use Rattle.bib_fields.proofs.of_three.is_of_three.Goals as goal

pub returns-then-branch : goal.returns-then-branch
returns-then-branch c mb mo mt eb eo et rows is_b is_o is_t table =
    or-first _ _ _ (c.in_ok-may_be_ours.ensures mb mo mt eb eo et rows is_b is_o is_t (ap option_copied (c.copied-value.ensures ∙ c.get.ensures) ∙ table.named c.args.field.now.name.now)) c.if-branch.true

pub returns : goal.returns
returns c mb mo mt eb eo et rows is_b is_o is_t table =
    let value = ap option_copied (c.copied-value.ensures ∙ c.get.ensures) ∙ table.named c.args.field.now.name.now in
    or-second _ _ _ _ (c.in_ok-may_be_ours.ensures mb mo mt eb eo et rows is_b is_o is_t value) c.if-branch.false (c.in_ok-is.ensures mb mo mt eb eo et rows is_b is_o is_t value)
