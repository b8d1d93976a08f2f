use Rattle.std.specs.Option.{option_copied}
use Rattle.bib_value.specs.Macros.{without}
use Rattle.bib_value.proofs.RawLemmas.{SaidTo}
use Rattle.bib_value.proofs.raw.raw_text.Given as goal

abbrev pub invariant-join : goal.invariant-join
invariant-join g l = SaidTo l.bytes (without (option_copied l.own) (g.M.MacroTable.macros l.macros)) l.n l.text.items
