use Rattle.journal_format.proofs.Words.{List, ℕ, arith, length, sym, ◌∙◌, ap}
use Rattle.journal_format.proofs.Packing.{length-steps_in}
use Rattle.journal_format.proofs.packed_steps.PackedSteps.len.Goals as goal

pub returns-clause-count : goal.returns-clause-count
returns-clause-count c =
    ap (λ (ns : List ℕ). length ns) c.as_slice.ensures.value
    ∙ sym (length-steps_in c.self.inside.version (length c.self.inside.places.items) c.self.inside.text.now) ∙ ap length c.self.view_is

pub returns-clause-small : goal.returns-clause-small
returns-clause-small c = omega (arith, c.as_slice.type_inv.1)
