use Rattle.bib_edit.proofs.Words.{arith, none-some, slice_get_within}
use Rattle.bib_edit.proofs.DefinedNames.{definition_item}
use Rattle.bib_edit.proofs.rename_macro.names_from.Goals as goal

pub push_from-requires : goal.push_from-requires
push_from-requires g c db reads =
    let d = c.requires db reads in
    let within = slice_get_within db.items c.args.n (definition_item d.0 d.1.0) d.1.1 in omega (arith, within)

pub returns-in_default-clause-taken : goal.returns-in_default-clause-taken
returns-in_default-clause-taken g c db reads = let d = c.requires db reads in absurd (none-some _ (c.in_default.ensures db reads d.0 d.1))
