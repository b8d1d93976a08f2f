use Rattle.bib_definitions.proofs.Words.{sym, subst, arith, Known, AreDefinitionsOf}
use Rattle.bib_definitions.proofs.DefinitionTables.{definition_goes, definition_numbered, definition_labelled}
use Rattle.bib_definitions.proofs.LongestTexts.{long_without}
use Rattle.bib_definitions.proofs.definitions.Definitions.remove.Goals as goal

pub returns-in_default-clause-go : goal.returns-in_default-clause-go
returns-in_default-clause-go c before after item count fits is settled are =
    let old : Known = record { numbers = c.self.inside.numbers; labels = c.self.inside.labels; defined = c.self.inside.by_name; longest = c.self.inside.longest } in
    absurd (definition_numbered before after item c.args.n count fits settled old old c.args.name.now is (subst (AreDefinitionsOf _) (sym c.self.view_is) are) c.in_default.ensures.none)

pub returns-then-k-count-clause-go : goal.returns-then-k-count-clause-go
returns-then-k-count-clause-go c before after item count fits is settled are =
    let old : Known = record { numbers = c.self.inside.numbers; labels = c.self.inside.labels; defined = c.self.inside.by_name; longest = c.self.inside.longest } in
    let inside = definition_labelled before after item c.args.n count fits settled old old c.args.name.now c.in-Some.k is (subst (AreDefinitionsOf _) (sym c.self.view_is) are) c.in-Some.ensures.rank in
    absurd (omega (arith, inside, c.if-k-count.true, c.count.ensures))

pub invariant_of-self : goal.invariant_of-self
invariant_of-self c = long_without c.self.inside.longest c.get.result c.self.inside.by_name c.take.new.self c.args.name.now c.take.ensures c.self.invariant

pub returns-clause-go : goal.returns-clause-go
returns-clause-go c before after item count fits is settled are =
    let old : Known = record { numbers = c.self.inside.numbers; labels = c.self.inside.labels; defined = c.self.inside.by_name; longest = c.self.inside.longest } in
    let new : Known = record { numbers = c.remove-2.new.self; labels = c.remove.new.self; defined = c.take.new.self; longest = c.self.inside.longest } in
    definition_goes before after item c.args.n count fits settled old new c.in-Some.k c.get.result c.args.name.now is c.in-Some.ensures.rank c.get.ensures c.remove-2.ensures.taken c.remove.ensures.labels c.remove.ensures.gone c.take.ensures
    (long_without c.self.inside.longest c.get.result c.self.inside.by_name c.take.new.self c.args.name.now c.take.ensures c.self.invariant) (subst (AreDefinitionsOf _) (sym c.self.view_is) are)
