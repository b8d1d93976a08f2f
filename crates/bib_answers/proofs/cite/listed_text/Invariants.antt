use Rattle.bib_answers.proofs.Words.{◌≡◌, take, flat_map, IfSome, entries_of, OfReading, listed_line}
use Rattle.bib_answers.specs.Cite.{IsKeyed}
use Rattle.bib_answers.proofs.cite.listed_text.Given as goal

abbrev pub invariant-list : goal.invariant-list
invariant-list l = OfReading l.db (λ r. l.listing ≡ flat_map (listed_line (entries_of r) l.list) (take l.n-index l.list)) × IfSome l.last (IsKeyed l.db)
