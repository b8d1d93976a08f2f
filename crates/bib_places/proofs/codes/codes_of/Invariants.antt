use Rattle.std.proofs.Common.{[], ◌∷◌}
use Rattle.bib_units.specs.declared.unit_view.UnitView.{UnitView}
use Rattle.bib_units.specs.Labels.{label_seen}
use Rattle.bib_places.specs.LabelCodes.{code_of}
use Rattle.bib_places.proofs.Lists.{IsGatheredTo}
use Rattle.bib_places.proofs.codes.codes_of.Given as goal

abbrev pub invariant-units : goal.invariant-units
invariant-units l = IsGatheredTo (λ (v : UnitView). code_of (label_seen v.label) ∷ []) [] l.units l.k l.codes.items
