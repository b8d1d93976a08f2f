use Rattle.bib_definitions.proofs.Words.{sym, subst, Known, AreDefinitionsOf}
use Rattle.bib_definitions.proofs.DefinitionTables.{definitions_go}
use Rattle.bib_definitions.proofs.definitions.Definitions.close.Goals as goal

pub returns-clause-go : goal.returns-clause-go
returns-clause-go c before after item count fits other are =
    let old : Known = record { numbers = c.self.inside.numbers; labels = c.self.inside.labels; defined = c.self.inside.by_name; longest = c.self.inside.longest } in
    definitions_go before after item c.args.n count fits other old c.close.new.self c.close.ensures.moved (subst (AreDefinitionsOf _) (sym c.self.view_is) are)
