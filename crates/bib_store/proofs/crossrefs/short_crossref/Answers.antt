use Rattle.bib_store.proofs.Words.{subst, Text, crossref, LacksWord}
use Rattle.bib_store.proofs.FirstCrossrefs.{entry_lacks}
use Rattle.bib_store.proofs.SettledCrossrefs.{settled_none}
use Rattle.bib_store.proofs.crossrefs.short_crossref.Goals as goal

pub returns-then-lacks_crossref-clause-text : goal.returns-then-lacks_crossref-clause-text
returns-then-lacks_crossref-clause-text g c =
    entry_lacks (g.M.MacroTable.macros c.args.macros.now) c.args.entry.now (subst (λ (t : Text). LacksWord t crossref) c.body.ensures (c.lacks_crossref.ensures c.if-lacks_crossref.true))

pub returns-then-lacks_crossref-clause-settled : goal.returns-then-lacks_crossref-clause-settled
returns-then-lacks_crossref-clause-settled g c is m i tree entry seen says = settled_none m i entry says
