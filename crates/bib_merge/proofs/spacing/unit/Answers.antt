use Rattle.std.proofs.Common.{Option, slice_get, map, sym, subst}
use Rattle.merge_spec.specs.Merged.{unit_at}
use Rattle.bib_places.specs.PlacesSeen.{MaySee}
use Rattle.bib_places.proofs.UnitsMet.{may-see}
use Rattle.bib_units.specs.declared.unit_view.UnitView.{UnitView}
use Rattle.bib_merge.proofs.spacing.unit.Goals as goal

pub returns-in-Some : goal.returns-in-Some
returns-in-Some c r all are =
    subst (λ number. MaySee r c.unit_with.result (unit_at (map (λ s. s.unit) all) number)) (sym c.in-Some.is)
    (subst (λ (o : Option UnitView). MaySee r o (slice_get (map (λ s. s.unit) all) c.in-Some.n)) (sym c.unit_with.ensures) (may-see r c.args.units.now all c.in-Some.n are))
