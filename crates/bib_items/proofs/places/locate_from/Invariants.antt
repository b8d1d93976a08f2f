use Rattle.bib_items.proofs.Words.{IsOnWay}
use Rattle.bib_items.proofs.places.locate_from.Given as goal

abbrev pub invariant-pass : goal.invariant-pass
invariant-pass l = IsOnWay l.pages l.p l.n l.left
