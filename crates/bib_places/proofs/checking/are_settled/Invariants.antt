use Rattle.std.proofs.Common.{◌≡◌, true, List, take}
use Rattle.std.specs.List.{list_all}
use Rattle.bib_spec.specs.Reading.{Reading}
use Rattle.merge_spec.specs.Units.{Label, units_of}
use Rattle.merge_spec.specs.Merged.{is_settled}
use Rattle.bib_places.specs.PlacesSeen.{IsSide, place_seen}
use Rattle.bib_places.specs.Tallies.{CountsLabels}
use Rattle.bib_places.proofs.checking.are_settled.Given as goal

abbrev pub invariant-places : goal.invariant-places
invariant-places g l = (rb ro rt : Reading) → IsSide rb l.base.db.now l.base.units.now → IsSide ro l.ours.db.now l.ours.units.now → IsSide rt l.theirs.db.now l.theirs.units.now
    → (labels : List Label) → CountsLabels l.given.counts labels → list_all (λ p. is_settled labels (units_of rb) (units_of ro) (units_of rt) (place_seen (units_of ro) (units_of rt) p)) (take l.k l.places) ≡ true
