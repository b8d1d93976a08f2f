use Rattle.bib_definitions.proofs.Words.{sym, subst, Known, AreDefinitionsOf}
use Rattle.bib_definitions.proofs.DefinitionTables.{definitions_come}
use Rattle.bib_definitions.proofs.definitions.Definitions.make_way.Goals as goal

pub returns-clause-come : goal.returns-clause-come
returns-clause-come c before after item count fits other are =
    let old : Known = record { numbers = c.self.inside.numbers; labels = c.self.inside.labels; defined = c.self.inside.by_name; longest = c.self.inside.longest } in
    definitions_come before after item c.args.n count fits other old c.make_way.new.self c.make_way.ensures.moved (subst (AreDefinitionsOf _) (sym c.self.view_is) are)
