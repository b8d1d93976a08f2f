use Rattle.bib_answers.proofs.Words.{◌≡◌, take, entries_of, entry_named, OfReading}
use Rattle.std.proofs.Common.{filter_map}
use Rattle.bib_answers.proofs.entry.found.Given as goal

abbrev pub invariant-keys : goal.invariant-keys
invariant-keys l = OfReading l.db (λ r. l.list.items ≡ filter_map (entry_named (entries_of r)) (take l.key-index l.keys))
