use Rattle.bib_names.proofs.OutputLemmas.{output_more}
use Rattle.bib_names.proofs.group_output.Output.push_text.Goals as goal

pub invariant_of-self-2 : goal.invariant_of-self-2
invariant_of-self-2 c =
    rw c.in_ok-extend_from_slice.ensures.items
    (output_more c.self.inside.bytes.items c.args.text.now _ _ c.self.inside.joints _ _ c.self.invariant c.over-self-inside.ensures.opened c.over-self-inside.ensures.closed)
