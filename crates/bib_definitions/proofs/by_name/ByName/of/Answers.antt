use Rattle.bib_definitions.proofs.Words.{◌≡◌, sym, ap, ◌∙◌, subst, option_copied, folded, definitions_of, each_held, Ascends}
use Rattle.bib_definitions.proofs.DefinedNames.{none_of}
use Rattle.bib_definitions.proofs.HeldLists.{of-each, none-each}
use Rattle.bib_definitions.proofs.by_name.ByName.of.Goals as goal

is_held : (c : goal.After-as_slice) → c.as_slice.result.now ≡ definitions_of (each_held c.self.inside.lists) (folded c.args.name.now)
is_held c = c.as_slice.ensures ∙ sym (of-each c.self.inside.lists (folded c.args.name.now) c.in-Some.held.now (sym c.get.ensures ∙ ap option_copied c.in-Some.is))

pub returns-in-Some-clause-is : goal.returns-in-Some-clause-is
returns-in-Some-clause-is c = is_held c ∙ ap (λ d. definitions_of d (folded c.args.name.now)) c.self.view_is

pub returns-in-Some-clause-ascend : goal.returns-in-Some-clause-ascend
returns-in-Some-clause-ascend c = subst Ascends (sym (is_held c)) (c.self.invariant (folded c.args.name.now))

pub returns-in-None-clause-is : goal.returns-in-None-clause-is
returns-in-None-clause-is c =
    sym (none_of (each_held c.self.inside.lists) (folded c.args.name.now) (none-each c.self.inside.lists (folded c.args.name.now) (sym c.get.ensures ∙ ap option_copied c.in-None.is)))
    ∙ ap (λ d. definitions_of d (folded c.args.name.now)) c.self.view_is
