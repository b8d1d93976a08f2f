use Rattle.folded_map.proofs.Entries.{name_short}
use Rattle.bib_value.proofs.table.Macros.define.Goals as goal

pub insert-requires : goal.insert-requires
insert-requires c = name_short c.args.name.now c.requires.name
