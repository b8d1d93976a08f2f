use Rattle.bib_items.proofs.Words.{◌≡◌}
use Rattle.bib_items.proofs.places.note_all.Given as goal

abbrev pub invariant-pass : goal.invariant-pass
invariant-pass l = l.pages.items ≡ l.initial.pages.items
