use Rattle.bib_items.proofs.Words.{between, LackPart}
use Rattle.bib_items.proofs.page.Page.look_from.Given as goal

abbrev pub invariant-pass : goal.invariant-pass
invariant-pass l = LackPart l.sought (between l.k l.n l.self) × LackPart l.other (between l.k l.n l.self)
