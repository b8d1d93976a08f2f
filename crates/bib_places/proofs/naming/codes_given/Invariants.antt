use Rattle.std.proofs.Common.{[], ◌∷◌}
use Rattle.bib_places.specs.declared.owned_label.OwnedLabel.{OwnedLabel}
use Rattle.bib_places.specs.LabelCodes.{code_of}
use Rattle.bib_places.specs.OwnedLabels.{owned_seen}
use Rattle.bib_places.proofs.Lists.{IsGatheredTo}
use Rattle.bib_places.proofs.naming.codes_given.Given as goal

abbrev pub invariant-labels : goal.invariant-labels
invariant-labels l = IsGatheredTo (λ (o : OwnedLabel). code_of (owned_seen o) ∷ []) [] l.labels l.k l.codes.items
