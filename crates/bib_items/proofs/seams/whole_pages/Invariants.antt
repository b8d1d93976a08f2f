use Rattle.bib_items.proofs.WholePages.{ArePassed}
use Rattle.bib_items.proofs.seams.whole_pages.Given as goal

abbrev pub invariant-pass : goal.invariant-pass
invariant-pass l = ArePassed l.pages l.p l.q l.items l.most
