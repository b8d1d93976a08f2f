use Rattle.bib_definitions.proofs.Words.{folded, definitions_of, each_held, with_definition, Ascends}
use Rattle.bib_definitions.proofs.HeldLists.{tried-each}
use Rattle.bib_definitions.proofs.PlacedDefinitions.{ascends_with}
use Rattle.bib_definitions.proofs.by_name.ByName.put.Goals as goal

pub invariant_of-self : goal.invariant_of-self
invariant_of-self c =
    let held = definitions_of (each_held c.self.inside.lists) (folded c.args.name.now) in
    tried-each Ascends c.self.inside.lists c.put.new.lists c.args.name.now (with_definition c.args.definition held) c.put.result c.put.ensures.ok c.put.ensures.err
    (ascends_with c.args.definition held (c.self.invariant (folded c.args.name.now))) c.self.invariant
