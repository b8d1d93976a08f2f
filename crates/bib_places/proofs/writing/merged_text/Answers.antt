use Rattle.std.proofs.Common.{◌++◌, sym, ◌∙◌, ap}
use Rattle.bib_spec.specs.Text.{Text}
use Rattle.merge_spec.specs.Units.{units_of, spaced_of}
use Rattle.merge_spec.specs.Merged.{place_bytes}
use Rattle.bib_places.specs.PlacesSeen.{place_seen}
use Rattle.bib_places.proofs.Lists.{gathered-next, gathered-all, flat_map-map}
use Rattle.bib_places.proofs.writing.merged_text.Goals as goal

pub places-preserved : goal.places-preserved
places-preserved g c ro rt so st =
    gathered-next (λ p. place_bytes (units_of ro) (units_of rt) (place_seen (units_of ro) (units_of rt) p)) c.args.space.now c.args.places.now c.places.k c.index-places-k.result c.places.out.items c.add_outcome.new.out.items c.places-test.true c.index-places-k.is
    (c.in_ok-add_outcome.ensures ro so.reads rt st.reads _ _ (c.unit_at-o.ensures ro (spaced_of ro) so.are) (c.unit_at-t.ensures rt (spaced_of rt) st.are)) (c.places.invariant ro rt so st)

pub returns : goal.returns
returns g c ro rt so st =
    let bytes = place_bytes (units_of ro) (units_of rt) in
    let seen = place_seen (units_of ro) (units_of rt) in
    c.from_vec.ensures ∙ gathered-all (λ p. bytes (seen p)) c.args.space.now c.args.places.now c.places.k c.places.out.items c.places-test.false (c.places.invariant ro rt so st)
    ∙ ap (λ (t : Text). c.args.space.now ++ t) (sym (flat_map-map bytes seen c.args.places.now))
