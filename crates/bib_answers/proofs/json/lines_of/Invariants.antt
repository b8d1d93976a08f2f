use Rattle.bib_answers.proofs.Words.{entries_of, OfReading}
use Rattle.bib_answers.proofs.JsonLines.{IsToldTo}
use Rattle.bib_answers.specs.Json.{file_of, told_in, told_line, is_told_in_utf8}
use Rattle.std.specs.Option.{option_copied}
use Rattle.bib_answers.proofs.json.lines_of.Given as goal

abbrev pub invariant-entries : goal.invariant-entries
invariant-entries l = OfReading l.db (λ r. IsToldTo is_told_in_utf8 told_line (told_in l.depth (entries_of r) (file_of (option_copied l.files) r)) l.list l.n-index l.lines.items)
