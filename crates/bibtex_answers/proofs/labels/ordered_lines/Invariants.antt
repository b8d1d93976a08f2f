use Rattle.std.proofs.Common.{◌≡◌, take, zip}
use Rattle.std.specs.List.{flat_map}
use Rattle.bib_answers.specs.Labels.{keyed_line}
use Rattle.bibtex_answers.proofs.LabelLines.{keys_of}
use Rattle.bibtex_answers.proofs.labels.ordered_lines.Given as goal

abbrev pub invariant-lines : goal.invariant-lines
invariant-lines l = l.out.items ≡ flat_map keyed_line (take l.n (zip l.labels (keys_of l.entries)))
