use Rattle.journal_format.proofs.Packing.{packed_says, packed_holds}
use Rattle.journal_format.proofs.packed_steps.packed.Goals as goal

pub invariant_of-result : goal.invariant_of-result
invariant_of-result c = packed_holds c.args.version c.args.text.now c.args.places.items c.requires.0 c.requires.1

pub returns : goal.returns
returns c = λ steps p. packed_says c.args.version c.args.text.now c.args.places.items steps p
