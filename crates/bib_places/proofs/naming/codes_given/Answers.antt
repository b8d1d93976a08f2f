use Rattle.std.proofs.Common.{[], ◌∷◌, sym, ◌∙◌}
use Rattle.bib_places.specs.declared.owned_label.OwnedLabel.{OwnedLabel}
use Rattle.bib_places.specs.LabelCodes.{code_of}
use Rattle.bib_places.specs.OwnedLabels.{owned_seen}
use Rattle.bib_places.proofs.Lists.{gathered-all, flat_map-one, map-map}
use Rattle.bib_places.proofs.naming.codes_given.Goals as goal

pub returns : goal.returns
returns c =
    gathered-all (λ (o : OwnedLabel). code_of (owned_seen o) ∷ []) [] c.args.labels.now c.labels.k c.labels.codes.items c.labels-test.false c.labels.invariant
    ∙ flat_map-one (λ (o : OwnedLabel). code_of (owned_seen o)) c.args.labels.now
    ∙ sym (map-map code_of owned_seen c.args.labels.now)
