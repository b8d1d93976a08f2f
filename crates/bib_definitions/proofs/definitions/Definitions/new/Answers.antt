use Rattle.bib_definitions.proofs.Words.{Known}
use Rattle.bib_definitions.proofs.DefinitionTables.{none_listed}
use Rattle.bib_definitions.proofs.LongestTexts.{long_none}
use Rattle.bib_definitions.proofs.definitions.Definitions.new.Goals as goal

pub invariant_of-result : goal.invariant_of-result
invariant_of-result c = long_none c.new-3.result c.new-3.ensures

pub returns : goal.returns
returns c =
    let known : Known = record { numbers = c.new.result; labels = c.new-2.result; defined = c.new-3.result; longest = 9 } in
    none_listed known c.new.ensures c.new-2.ensures.none c.new-2.ensures.labels c.new-3.ensures (long_none c.new-3.result c.new-3.ensures)
