use Rattle.bib_hints.proofs.items.items_of.Given as goal

abbrev pub decreases-items : goal.decreases-items
decreases-items l = l.reader.left
