use Rattle.bib_definitions.proofs.Words.{List, sym, ◌∙◌, ap, subst, Text, folded, Held, definitions_of, each_held, without_label, Gives, Ascends}
use Rattle.bib_definitions.proofs.DefinedNames.{none_of, gives_same}
use Rattle.bib_definitions.proofs.HeldLists.{of-each, none-each, gives-changed}
use Rattle.bib_definitions.proofs.by_name.take.Goals as goal

pub without-requires : goal.without-requires
without-requires c = subst Ascends (of-each c.args.lists.now (folded c.args.name.now) c.in-Some.held (sym c.replace.ensures.value ∙ c.in-Some.is)) (c.requires (folded c.args.name.now))

pub returns-in_default : goal.returns-in_default
returns-in_default c =
    let old = c.args.lists.now in
    let name = c.args.name.now in
    let none = none_of (each_held old) (folded name) (none-each old (folded name) (sym c.replace.ensures.value ∙ c.in_default.is)) in
    subst (λ (new : List (Text × Held)). Gives (each_held old) name (without_label c.args.label (definitions_of (each_held old) (folded name))) (each_held new)) (sym c.in_default.ensures.none)
    (gives_same (each_held old) name (without_label c.args.label (definitions_of (each_held old) (folded name))) (ap (without_label c.args.label) none ∙ sym none))

pub returns : goal.returns
returns c =
    gives-changed c.args.lists.now c.replace.new.self c.replace-2.new.self c.args.name.now c.in-Some.held c.without.result c.replace-2.result (without_label c.args.label) (sym c.replace.ensures.value ∙ c.in-Some.is) c.without.ensures
    c.in-Some.ensures.some c.replace-2.ensures.value c.replace-2.ensures.some
