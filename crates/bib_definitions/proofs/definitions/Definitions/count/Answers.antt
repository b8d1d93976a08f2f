use Rattle.bib_definitions.proofs.Words.{◌∙◌, length, sym, ap, subst, Known, AreDefinitionsOf, Definition}
use Rattle.bib_definitions.proofs.FirstDefinitions.{counted-named}
use Rattle.bib_definitions.proofs.definitions.Definitions.count.Goals as goal

pub returns : goal.returns
returns c items are =
    let known : Known = record { numbers = c.self.inside.numbers; labels = c.self.inside.labels; defined = c.self.inside.by_name; longest = c.self.inside.longest } in
    ap (length {A = Definition}) c.of.ensures.is
    ∙ counted-named c.args.name.now known items (subst (AreDefinitionsOf items) (sym c.self.view_is) are)
