use Rattle.std.proofs.Common.{[], ◌∷◌, ◌++◌, map, ◌∙◌, ap}
use Rattle.bib_renames.specs.declared.given.GivenName.{GivenName}
use Rattle.bib_places.specs.OwnedLabels.{owned_seen}
use Rattle.bib_places.proofs.Lists.{gathered-next, gathered-all, flat_map-one, map-snoc}
use Rattle.bib_merge.specs.Merges.{label_given}
use Rattle.bib_merge.proofs.merging.labels_given.Goals as goal

pub given-preserved : goal.given-preserved
given-preserved c =
    gathered-next (λ (g : GivenName). label_given g ∷ []) [] c.args.given.now c.given.k c.index-given-k.result (map owned_seen c.given.labels.items) (map owned_seen c.push.new.self.items) c.given-test.true c.index-given-k.is
    (ap (map owned_seen) c.in_ok-push.ensures.items ∙ map-snoc owned_seen c.given.labels.items c.in_ok-label_given.field-0 ∙ ap (λ l. map owned_seen c.given.labels.items ++ l ∷ []) c.in_ok-label_given.ensures)
    c.given.invariant

pub returns : goal.returns
returns c =
    gathered-all (λ (g : GivenName). label_given g ∷ []) [] c.args.given.now c.given.k (map owned_seen c.given.labels.items) c.given-test.false c.given.invariant
    ∙ flat_map-one label_given c.args.given.now
