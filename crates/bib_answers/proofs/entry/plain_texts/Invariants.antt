use Rattle.bib_answers.proofs.Words.{◌≡◌, false, take, flat_map, OfReading}
use Rattle.bib_answers.specs.Entry.{entry_text}
use Rattle.bib_answers.proofs.entry.plain_texts.Given as goal

abbrev pub invariant-entries : goal.invariant-entries
invariant-entries l = OfReading l.db (λ r. l.out.items ≡ flat_map (entry_text false r) (take l.n-index l.list))
