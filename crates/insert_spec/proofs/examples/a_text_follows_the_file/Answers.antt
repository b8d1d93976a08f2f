use Rattle.std.proofs.Common.{refl}
use Rattle.insert_spec.proofs.examples.a_text_follows_the_file.Goals as goal

pub returns : goal.returns
returns c = record { joined = refl; last = refl; pieces = refl; nothing = refl }
