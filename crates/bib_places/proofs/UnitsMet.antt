-- The units that meet at a place.
use Rattle.std.proofs.Common.{ℕ, zero, suc, List, [], ◌∷◌, slice_get, map}
use Rattle.bib_spec.specs.Reading.{Reading}
use Rattle.merge_spec.specs.Units.{Spaced}
use Rattle.bib_units.specs.declared.unit_view.UnitView.{UnitView}
use Rattle.bib_units.specs.UnitsSeen.{AreUnits}
use Rattle.bib_places.specs.PlacesSeen.{MaySee}

-- the units with one number are the same
pub may-see : (r : Reading) (views : List UnitView) (all : List Spaced) (n : ℕ) → AreUnits r views all → MaySee r (slice_get views n) (slice_get (map (λ s. s.unit) all) n)
may-see r [] [] n are = tt
may-see r [] (s ∷ all) n are = absurd are
may-see r (v ∷ views) [] n are = absurd are
may-see r (v ∷ views) (s ∷ all) zero are = (s.space, are.0)
may-see r (v ∷ views) (s ∷ all) (suc n) are = may-see r views all n are.1
