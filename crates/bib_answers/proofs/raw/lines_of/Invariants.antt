use Rattle.bib_answers.proofs.Words.{OfReading}
use Rattle.bib_answers.proofs.JsonLines.{IsToldTo}
use Rattle.bib_answers.specs.Raw.{raw_in, raw_in_line, is_raw_in_utf8}
use Rattle.std.specs.Option.{option_copied}
use Rattle.bib_answers.proofs.raw.lines_of.Given as goal

abbrev pub invariant-entries : goal.invariant-entries
invariant-entries l = OfReading l.db (λ r. IsToldTo is_raw_in_utf8 raw_in_line (raw_in l.depth (option_copied l.files) r) l.list l.n-index l.lines.items)
