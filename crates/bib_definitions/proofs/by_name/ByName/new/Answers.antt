use Rattle.bib_definitions.proofs.DefinedNames.{none_of}
use Rattle.bib_definitions.proofs.HeldLists.{none-each}
use Rattle.bib_definitions.proofs.PlacedDefinitions.{none_ascend}
use Rattle.bib_definitions.proofs.by_name.ByName.new.Goals as goal

pub invariant_of-result : goal.invariant_of-result
invariant_of-result c name = none_ascend _ (none_of _ name (none-each c.new.result name (c.new.ensures name)))

pub returns : goal.returns
returns c name = none_of _ name (none-each c.new.result name (c.new.ensures name))
