use Rattle.std.proofs.Common.{[], map}
use Rattle.bib_spec.specs.Reading.{Reading}
use Rattle.merge_spec.specs.Units.{units_of}
use Rattle.merge_spec.specs.Conflicts.{conflict_at}
use Rattle.bib_places.specs.PlacesSeen.{IsSide, place_seen}
use Rattle.bib_places.specs.ConflictsSeen.{conflict_seen}
use Rattle.bib_places.proofs.Lists.{IsGatheredTo}
use Rattle.bib_places.proofs.conflicts.conflicts_of.Given as goal

abbrev pub invariant-places : goal.invariant-places
invariant-places g l = (rb ro rt : Reading) → IsSide rb l.base l.base_units → IsSide ro l.ours l.our_units → IsSide rt l.theirs l.their_units
    → IsGatheredTo (λ p. conflict_at (units_of rb) (units_of ro) (units_of rt) (place_seen (units_of ro) (units_of rt) p)) [] l.places l.k (map conflict_seen l.conflicts.items)
