use Rattle.bib_items.proofs.ItemsIn.{AreKept}
use Rattle.bib_items.proofs.page.compacted.Given as goal

abbrev pub invariant-pass : goal.invariant-pass
invariant-pass l = AreKept l.shared l.own l.spans l.n l.kept.items l.places.items
