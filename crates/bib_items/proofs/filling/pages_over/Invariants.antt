use Rattle.bib_items.proofs.Words.{◌≡◌, ◌-◌, Reading, Reads, start_of}
use Rattle.bib_items.proofs.Gathered.{IsFilledTo}
use Rattle.bib_items.proofs.filling.pages_over.Given as goal

abbrev pub decreases-fill : goal.decreases-fill
decreases-fill l = l.count - l.from

abbrev pub invariant-fill : goal.invariant-fill
invariant-fill l = IsFilledTo l.text l.from l.pages.items × ((db : Reading) → Reads l.text db → l.start ≡ start_of db l.from)
