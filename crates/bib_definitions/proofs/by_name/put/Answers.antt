use Rattle.bib_definitions.proofs.Words.{List, sym, ap, ◌∙◌, subst, option_copied, folded, Definition, each_held, with_definition, Gives}
use Rattle.bib_definitions.specs.declared.held.Held.TheVariants.{One}
use Rattle.bib_definitions.proofs.DefinedNames.{none_of}
use Rattle.bib_definitions.proofs.HeldLists.{none-each, gives-each}
use Rattle.bib_definitions.proofs.by_name.put.Goals as goal

pub returns-in_ok-insert-in-None-clause-ok : goal.returns-in_ok-insert-in-None-clause-ok
returns-in_ok-insert-in-None-clause-ok c =
    let old = c.args.lists.now in
    let new = c.insert.new.self in
    let name = c.args.name.now in
    subst (λ (ds : List Definition). Gives (each_held old) name (with_definition c.args.definition ds) (each_held new))
    (sym (none_of (each_held old) (folded name) (none-each old (folded name) (sym c.get.ensures ∙ ap option_copied c.in-None.is))))
    (gives-each old new name (One c.args.definition) c.in_ok-insert-in-None.ensures.ok)
