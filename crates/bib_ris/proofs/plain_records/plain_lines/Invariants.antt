use Rattle.bib_ris.proofs.Words.{◌≡◌, take, map}
use Rattle.bib_ris.specs.Plain.{plain_line}
use Rattle.bib_ris.proofs.plain_records.plain_lines.Given as goal

abbrev pub invariant-lines : goal.invariant-lines
invariant-lines l = l.out.items ≡ map plain_line (take l.line-index l.lines)
