use Rattle.bib_answers.proofs.Words.{◌≡◌, take, zip, flat_map, entries_of, keys_of, OfReading, new_key_line}
use Rattle.bib_answers.proofs.newkeys.lines_of.Given as goal

abbrev pub invariant-line : goal.invariant-line
invariant-line l = OfReading l.db (λ r. l.out.items ≡ flat_map new_key_line (take l.n (zip (keys_of (entries_of r)) l.keys)))
