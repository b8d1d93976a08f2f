use Rattle.bib_definitions.proofs.Words.{folded, definitions_of, each_held, without_label, Ascends}
use Rattle.bib_definitions.proofs.DefinedNames.{given_all}
use Rattle.bib_definitions.proofs.PlacedDefinitions.{ascends_without}
use Rattle.bib_definitions.proofs.by_name.ByName.take.Goals as goal

pub invariant_of-self : goal.invariant_of-self
invariant_of-self c =
    let old = each_held c.self.inside.lists in
    given_all Ascends old (each_held c.take.new.lists) c.args.name.now (without_label c.args.label (definitions_of old (folded c.args.name.now))) c.take.ensures
    (ascends_without c.args.label (definitions_of old (folded c.args.name.now)) (c.self.invariant (folded c.args.name.now))) c.self.invariant
