use Rattle.std.proofs.Common.{List, map, ap, sym, ◌∙◌, subst}
use Rattle.merge_spec.specs.Units.{units_of, spaced_of}
use Rattle.merge_spec.specs.Conflicts.{conflicts_of}
use Rattle.bib_units.specs.UnitsSeen.{AreUnits}
use Rattle.bib_units.specs.declared.unit_view.UnitView.{UnitView}
use Rattle.bib_places.specs.PlacesSeen.{place_seen}
use Rattle.bib_merge.proofs.merging.settle_over.Goals as goal

pub returns-clause-merge : goal.returns-clause-merge
returns-clause-merge c rb reads_b ro rt so st =
    let are = subst (λ (vs : List UnitView). AreUnits rb vs (spaced_of rb)) (sym c.as_slice-base_units.ensures.value) (c.in_ok-of_base.ensures.units rb reads_b) in
    c.in_ok-places.ensures rb ro rt (record { reads = reads_b; are = are }) so st

pub returns-clause-conflicts : goal.returns-clause-conflicts
returns-clause-conflicts c rb reads_b ro rt so st =
    let are = subst (λ (vs : List UnitView). AreUnits rb vs (spaced_of rb)) (sym c.as_slice-base_units.ensures.value) (c.in_ok-of_base.ensures.units rb reads_b) in
    c.in_ok-conflicts.ensures rb ro rt (record { reads = reads_b; are = are }) so st
    ∙ ap (λ ps. conflicts_of (units_of rb) (units_of ro) (units_of rt) (map (place_seen (units_of ro) (units_of rt)) ps)) c.as_slice.ensures.value
