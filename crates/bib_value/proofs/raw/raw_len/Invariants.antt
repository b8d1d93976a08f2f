use Rattle.std.specs.Option.{option_copied}
use Rattle.bib_value.specs.Macros.{without}
use Rattle.bib_value.proofs.RawLemmas.{LenTo}
use Rattle.bib_value.proofs.raw.raw_len.Given as goal

abbrev pub invariant-measure : goal.invariant-measure
invariant-measure g l = LenTo l.bytes (without (option_copied l.own) (g.M.MacroTable.macros l.macros)) l.n l.len
