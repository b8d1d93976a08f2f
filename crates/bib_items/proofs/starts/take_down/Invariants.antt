use Rattle.bib_items.proofs.PageStarts.{AreTaken}
use Rattle.bib_items.proofs.starts.take_down.Given as goal

abbrev pub invariant-pass : goal.invariant-pass
invariant-pass l = AreTaken l.pages l.starts.items l.p l.start
