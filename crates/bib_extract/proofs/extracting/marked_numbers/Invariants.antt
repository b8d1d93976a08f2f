use Rattle.std.proofs.Common.{◌≡◌, filter}
use Rattle.std.specs.List.{range_with_len}
use Rattle.bib_extract.specs.Marks.{is_marked}
use Rattle.bib_extract.proofs.extracting.marked_numbers.Given as goal

abbrev pub invariant-marks : goal.invariant-marks
invariant-marks l = l.numbers.items ≡ filter (is_marked l.marks) (range_with_len 0 l.n)
