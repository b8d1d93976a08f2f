use Rattle.std.proofs.Common.{refl}
use Rattle.insert_spec.proofs.examples.a_text_stands_between_items.Goals as goal

pub returns : goal.returns
returns c = record { between = refl; first = refl; pieces = refl; line = refl }
