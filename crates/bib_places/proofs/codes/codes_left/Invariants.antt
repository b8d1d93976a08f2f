use Rattle.std.proofs.Common.{List, [], map, option_map}
use Rattle.std.specs.Option.{option_to_list}
use Rattle.bib_spec.specs.Reading.{Reading}
use Rattle.merge_spec.specs.Units.{Spaced}
use Rattle.merge_spec.specs.Merged.{label_left, unit_at}
use Rattle.bib_units.specs.UnitsSeen.{AreUnits}
use Rattle.bib_places.specs.LabelCodes.{code_of}
use Rattle.bib_places.specs.PlacesSeen.{outcome_seen}
use Rattle.bib_places.proofs.Lists.{IsGatheredTo}
use Rattle.bib_places.proofs.codes.codes_left.Given as goal

abbrev pub invariant-places : goal.invariant-places
invariant-places l = (ro rt : Reading) (uo ut : List Spaced) → AreUnits ro l.ours uo → AreUnits rt l.theirs ut
    → IsGatheredTo (λ p. option_to_list (option_map code_of (label_left (unit_at (map (λ s. s.unit) uo) p.ours) (unit_at (map (λ s. s.unit) ut) p.theirs) (outcome_seen (unit_at (map (λ s. s.unit) uo) p.ours) (unit_at (map (λ s. s.unit) ut) p.theirs) p.outcome)))) [] l.places l.k l.codes.items
