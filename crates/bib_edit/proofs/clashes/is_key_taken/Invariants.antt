use Rattle.bib_edit.proofs.Words.{◌≡◌, drop, list_any, entries_of, keys_of, OfReading}
use Rattle.insert_spec.specs.Insertion.{is_taken, is_key_taken}
use Rattle.bib_edit.proofs.clashes.is_key_taken.Given as goal

abbrev pub invariant-entries : goal.invariant-entries
invariant-entries g l = OfReading l.db (λ r. OfReading l.text (λ new. is_key_taken new r ≡ list_any (is_taken new r) (drop l.n (keys_of (entries_of new)))))
