use Rattle.std.proofs.Common.{[], ◌∷◌, map}
use Rattle.bib_renames.specs.declared.given.GivenName.{GivenName}
use Rattle.bib_places.specs.OwnedLabels.{owned_seen}
use Rattle.bib_places.proofs.Lists.{IsGatheredTo}
use Rattle.bib_merge.specs.Merges.{label_given}
use Rattle.bib_merge.proofs.merging.labels_given.Given as goal

abbrev pub invariant-given : goal.invariant-given
invariant-given l = IsGatheredTo (λ (g : GivenName). label_given g ∷ []) [] l.given l.k (map owned_seen l.labels.items)
