use Rattle.std.proofs.Common.{[], ◌∷◌, map, sym, ◌∙◌, ap}
use Rattle.bib_units.specs.declared.unit_view.UnitView.{UnitView}
use Rattle.bib_units.specs.Labels.{label_seen}
use Rattle.bib_places.specs.LabelCodes.{code_of}
use Rattle.bib_places.proofs.Lists.{gathered-all, flat_map-one, map-map, same-labels}
use Rattle.bib_places.proofs.codes.codes_of.Goals as goal

pub returns : goal.returns
returns c r all are =
    gathered-all (λ (v : UnitView). code_of (label_seen v.label) ∷ []) [] c.args.units.now c.units.k c.units.codes.items c.units-test.false c.units.invariant
    ∙ flat_map-one (λ (v : UnitView). code_of (label_seen v.label)) c.args.units.now
    ∙ sym (map-map code_of (λ (v : UnitView). label_seen v.label) c.args.units.now)
    ∙ ap (map code_of) (same-labels r c.args.units.now all are)
