use Rattle.bib_store.proofs.SaidTexts.{entry_exceeds}
use Rattle.bib_store.proofs.crossrefs.entry_crossref.Goals as goal

pub returns-clause-too_long : goal.returns-clause-too_long
returns-clause-too_long g c =
    entry_exceeds (g.M.MacroTable.macros c.args.macros.now) c.args.entry.now c.fields.result c.crossref_of.result c.fields.ensures.fields c.crossref_of.ensures.too_long
