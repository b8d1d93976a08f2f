use Rattle.bib_edit.proofs.Words.{◌≡◌, drop, list_any, OfReading}
use Rattle.insert_spec.specs.Insertion.{defines_taken, is_name_taken}
use Rattle.bib_edit.proofs.clashes.is_name_taken.Given as goal

abbrev pub invariant-items : goal.invariant-items
invariant-items g l = OfReading l.db (λ r. OfReading l.text (λ new. is_name_taken new r ≡ list_any (λ item. defines_taken r item.tree) (drop l.n new.items)))
