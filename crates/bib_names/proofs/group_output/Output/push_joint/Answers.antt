use Rattle.bib_names.proofs.Words.{sym, ◌∙◌, eqb-true}
use Rattle.bib_names.proofs.OutputLemmas.{output_plain, output_joint}
use Rattle.bib_names.proofs.group_output.Output.push_joint.Goals as goal

pub invariant_of-self-then-are_level : goal.invariant_of-self-then-are_level
invariant_of-self-then-are_level c =
    rw c.in_ok-push.ensures.items
    (output_joint c.self.inside.bytes.items c.args.joint _ _ c.self.inside.joints c.self.invariant (eqb-true _ _ (sym c.are_level.ensures ∙ c.if-are_level.true)) c.requires)

pub invariant_of-self-else-are_level : goal.invariant_of-self-else-are_level
invariant_of-self-else-are_level c =
    rw c.in_ok-push.ensures.items (output_plain c.self.inside.bytes.items c.args.joint _ _ c.self.inside.joints c.self.invariant c.requires)

pub invariant_of-self-else-self-lt-ENOUGH : goal.invariant_of-self-else-self-lt-ENOUGH
invariant_of-self-else-self-lt-ENOUGH c =
    rw c.in_ok-push.ensures.items (output_plain c.self.inside.bytes.items c.args.joint _ _ c.self.inside.joints c.self.invariant c.requires)
