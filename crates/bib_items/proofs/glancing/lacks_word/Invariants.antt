use Rattle.bib_items.proofs.Words.{◌-◌, length}
use Rattle.bib_items.proofs.Glances.{LacksBefore}
use Rattle.bib_items.proofs.glancing.lacks_word.Given as goal

abbrev pub invariant-search : goal.invariant-search
invariant-search l = LacksBefore l.text l.word l.rare l.at

abbrev pub decreases-search : goal.decreases-search
decreases-search l = length l.text - l.at
