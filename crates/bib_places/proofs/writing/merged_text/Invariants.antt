use Rattle.bib_spec.specs.Reading.{Reading}
use Rattle.merge_spec.specs.Units.{units_of}
use Rattle.merge_spec.specs.Merged.{place_bytes}
use Rattle.bib_places.specs.PlacesSeen.{IsSide, place_seen}
use Rattle.bib_places.proofs.Lists.{IsGatheredTo}
use Rattle.bib_places.proofs.writing.merged_text.Given as goal

abbrev pub invariant-places : goal.invariant-places
invariant-places g l = (ro rt : Reading) → IsSide ro l.ours.db.now l.ours.units.now → IsSide rt l.theirs.db.now l.theirs.units.now
    → IsGatheredTo (λ p. place_bytes (units_of ro) (units_of rt) (place_seen (units_of ro) (units_of rt) p)) l.space l.places l.k l.out.items
