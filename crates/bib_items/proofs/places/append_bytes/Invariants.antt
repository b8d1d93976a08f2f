use Rattle.bib_items.proofs.Appended.{IsAppended}
use Rattle.bib_items.proofs.places.append_bytes.Given as goal

abbrev pub invariant-pass : goal.invariant-pass
invariant-pass l = IsAppended l.pages l.p l.from l.to l.skip l.left l.fn.out.items l.out.items
