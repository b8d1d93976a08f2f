use Rattle.bib_answers.proofs.Words.{◌≡◌, take, entries_of, keys_of, OfReading}
use Rattle.bib_state.specs.Telling.{key_lines}
use Rattle.bib_state.proofs.telling.keys_of.Given as goal

abbrev pub invariant-line : goal.invariant-line
invariant-line l = OfReading l.db (λ r. l.keys.items ≡ key_lines (take l.n (keys_of (entries_of r))))
