use Rattle.std.proofs.Common.{◌≡◌, ◌↔◌, subst}
use Rattle.std.specs.Prelude.{IsTrue}
use Rattle.merge_spec.specs.Units.{units_of}
use Rattle.bib_places.specs.PlacesSeen.{place_seen}
use Rattle.bib_merge.specs.Bodies.{bodies_of, place_bodies}
use Rattle.bib_merge.proofs.ItemsMet.{places-more, places-all}
use Rattle.bib_merge.proofs.meeting.has_items.Goals as goal

pub places-preserved : goal.places-preserved
places-preserved c rm reads_m ro rt so st =
    places-more (λ p. place_bodies (units_of ro) (units_of rt) (place_seen (units_of ro) (units_of rt) p)) (bodies_of rm) c.args.places.now c.places.k c.index-places-k.result c.in_ok-met.met c.places-test.true c.index-places-k.is
    (c.in_ok-met.ensures rm reads_m ro rt _ so st (c.places.invariant rm reads_m ro rt so st))

pub returns : goal.returns
returns c rm reads_m ro rt so st =
    subst (λ ws. IsTrue c.are_all.result ↔ (ws ≡ bodies_of rm)) (places-all (place_bodies (units_of ro) (units_of rt)) (place_seen (units_of ro) (units_of rt)) c.args.places.now c.places.k c.places-test.false)
    (c.are_all.ensures rm reads_m _ (c.places.invariant rm reads_m ro rt so st))
