use Rattle.bib_answers.proofs.Words.{◌≡◌, ◌++◌, take, flat_map}
use Rattle.bib_answers.specs.Cite.{line_bytes}
use Rattle.bib_answers.proofs.listing.write_lines.Given as goal

abbrev pub invariant-lines : goal.invariant-lines
invariant-lines l = l.text.items ≡ l.initial.text.items ++ flat_map line_bytes (take l.line-index l.lines)
