use Rattle.std.proofs.Common.{◌≡◌, ◌++◌, drop}
use Rattle.bib_places.specs.Queues.{marked_from}
use Rattle.bib_places.proofs.queues.Queues.numbers.Given as goal

abbrev pub invariant-marks : goal.invariant-marks
invariant-marks l = l.numbers.items ++ marked_from l.n (drop l.n l.self.left.items) ≡ marked_from 0 l.self.left.items
