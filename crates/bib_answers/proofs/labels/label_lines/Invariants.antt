use Rattle.bib_answers.proofs.Words.{◌≡◌, take, zip, flat_map, keyed_line}
use Rattle.bib_answers.proofs.labels.label_lines.Given as goal

abbrev pub invariant-line : goal.invariant-line
invariant-line l = l.out.items ≡ flat_map keyed_line (take l.n (zip l.labels l.keys))
