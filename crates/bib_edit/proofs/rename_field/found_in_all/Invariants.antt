use Rattle.bib_edit.proofs.Words.{OfReading, tokens_seen}
use Rattle.bib_edit.proofs.NamedFields.{AreFoundTo}
use Rattle.bib_edit.proofs.rename_field.found_in_all.Given as goal

abbrev pub invariant-items : goal.invariant-items
invariant-items g l = OfReading l.db (λ r. AreFoundTo l.from l.to r l.n l.at (tokens_seen l.names.items) l.clashes)
