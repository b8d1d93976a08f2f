use Rattle.std.proofs.Common.{◌≡◌, true, ◌∙◌, subst}
use Rattle.merge_spec.specs.Units.{units_of}
use Rattle.merge_spec.specs.Merged.{is_settled}
use Rattle.bib_places.specs.declared.place.Place.{Place}
use Rattle.bib_places.specs.PlacesSeen.{place_seen}
use Rattle.bib_places.proofs.Lists.{all-more, all-all, all-map}
use Rattle.bib_places.proofs.checking.are_settled.Goals as goal

pub places-preserved : goal.places-preserved
places-preserved g c rb ro rt sb so st labels counts =
    all-more (λ p. is_settled labels (units_of rb) (units_of ro) (units_of rt) (place_seen (units_of ro) (units_of rt) p)) c.args.places.now c.places.k c.index-places-k.result c.places-test.true
    (subst (λ (p : Place). is_settled labels (units_of rb) (units_of ro) (units_of rt) (place_seen (units_of ro) (units_of rt) p) ≡ true) c.index-places-k.is (c.in_ok-is_settled.ensures c.if-not-branch.false rb ro rt sb so st labels counts)) (c.places.invariant rb ro rt sb so st labels counts)

pub returns : goal.returns
returns g c yes' rb ro rt sb so st labels counts =
    all-map (is_settled labels (units_of rb) (units_of ro) (units_of rt)) (place_seen (units_of ro) (units_of rt)) c.args.places.now
    ∙ all-all (λ p. is_settled labels (units_of rb) (units_of ro) (units_of rt) (place_seen (units_of ro) (units_of rt) p)) c.args.places.now c.places.k c.places-test.false (c.places.invariant rb ro rt sb so st labels counts)
