use Rattle.bib_store.specs.Readings.{OfReading}
use Rattle.bib_paste.proofs.NewItems.{IsWrittenTo}
use Rattle.bib_paste.proofs.news.news_among.Given as goal

abbrev pub invariant-items : goal.invariant-items
invariant-items g l = OfReading l.text (λ new. IsWrittenTo (g.M.MacroTable.macros l.macros) new l.n l.out.items)
