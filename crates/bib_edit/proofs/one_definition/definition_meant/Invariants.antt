use Rattle.bib_edit.proofs.Words.{◌≡◌, drop, OfReading}
use Rattle.edit_spec.specs.Edits.{defines, nth_of, definition_meant}
use Rattle.bib_edit.proofs.NthWalks.{after}
use Rattle.bib_edit.proofs.one_definition.definition_meant.Given as goal

abbrev pub invariant-items : goal.invariant-items
invariant-items g l = OfReading l.db (λ r. definition_meant l.name l.number r.items ≡ after l.n (nth_of (λ item. defines l.name item.tree) l.left (drop l.n r.items)))
