use Rattle.bib_definitions.proofs.Words.{sym, ◌∙◌, subst, folded, with_definition, Ascends}
use Rattle.bib_definitions.proofs.HeldLists.{of-each, gives-changed}
use Rattle.bib_definitions.proofs.by_name.put_among.Goals as goal

pub with-requires-clause-ascend : goal.with-requires-clause-ascend
with-requires-clause-ascend c = subst Ascends (of-each c.args.lists.now (folded c.args.name.now) c.in-Some.held (sym c.replace.ensures.value ∙ c.in-Some.is)) (c.requires.order (folded c.args.name.now))

pub returns : goal.returns
returns c =
    gives-changed c.args.lists.now c.replace.new.self c.replace-2.new.self c.args.name.now c.in-Some.held c.with.result c.replace-2.result (with_definition c.args.definition) (sym c.replace.ensures.value ∙ c.in-Some.is) c.with.ensures
    c.in-Some.ensures.some c.replace-2.ensures.value c.replace-2.ensures.some
