use Rattle.std.proofs.Common.{List}
use Rattle.bib_spec.specs.Text.{Text}
use Rattle.bib_shelf.specs.Joined.{AreJoined}
use Rattle.bib_shelf.specs.Faults.{HaveTheirPlaces}
use Rattle.bib_shelf.proofs.reading.read_each.Given as goal

abbrev pub invariant-files : goal.invariant-files
invariant-files l = (files : List Text) → AreJoined files (record { text = l.text; spans = l.spans }) → HaveTheirPlaces files l.i
