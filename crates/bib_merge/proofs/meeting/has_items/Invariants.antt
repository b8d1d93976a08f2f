use Rattle.std.proofs.Common.{take}
use Rattle.std.specs.List.{flat_map}
use Rattle.bib_spec.specs.Reading.{Reading, Reads}
use Rattle.merge_spec.specs.Units.{units_of}
use Rattle.bib_places.specs.PlacesSeen.{IsSide, place_seen}
use Rattle.bib_merge.specs.Bodies.{bodies_of, place_bodies, AreMet}
use Rattle.bib_merge.proofs.meeting.has_items.Given as goal

abbrev pub invariant-places : goal.invariant-places
invariant-places l = (rm : Reading) → Reads l.merged rm → (ro rt : Reading) → IsSide ro l.ours.db.now l.ours.units.now → IsSide rt l.theirs.db.now l.theirs.units.now
    → AreMet (bodies_of rm) (flat_map (λ p. place_bodies (units_of ro) (units_of rt) (place_seen (units_of ro) (units_of rt) p)) (take l.k l.places)) l.met
