use Rattle.bib_scan.proofs.Words.{◌≡◌}
use Rattle.bib_scan.proofs.reader.Reader.finish.Given as goal

abbrev pub invariant-loop-reader : goal.invariant-loop-reader
invariant-loop-reader l = l.reader.file ≡ l.initial.reader.file

abbrev pub decreases-loop-reader : goal.decreases-loop-reader
decreases-loop-reader l = l.reader.left
