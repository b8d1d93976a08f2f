use Rattle.std.proofs.Common.{List, [], map, drop}
use Rattle.bib_spec.specs.Reading.{Reading}
use Rattle.merge_spec.specs.Units.{Label, units_of}
use Rattle.bib_places.specs.PlacesSeen.{IsSide, place_seen}
use Rattle.bib_places.specs.Tallies.{CountsLabels}
use Rattle.bib_places.specs.NumbersLeft.{AreSoFar}
use Rattle.bib_places.specs.Queues.{left_of, AreOfUnits}
use Rattle.bib_places.proofs.plain.put_ours.Given as goal

abbrev pub invariant-numbers : goal.invariant-numbers
invariant-numbers g l = (rb ro rt : Reading) → IsSide rb l.base.db.now l.base.units.now → IsSide ro l.ours.db.now l.ours.units.now → IsSide rt l.theirs.db.now l.theirs.units.now
    → (labels : List Label) → CountsLabels l.given.counts labels → AreOfUnits (units_of rt) l.fn.of_theirs
    → AreSoFar labels (units_of rb) (units_of ro) (units_of rt) (map (place_seen (units_of ro) (units_of rt)) l.fn.places.items) [] l.numbers (left_of l.fn.of_theirs)
    → AreOfUnits (units_of rt) l.of_theirs × AreSoFar labels (units_of rb) (units_of ro) (units_of rt) (map (place_seen (units_of ro) (units_of rt)) l.places.items) [] (drop l.k l.numbers) (left_of l.of_theirs)
