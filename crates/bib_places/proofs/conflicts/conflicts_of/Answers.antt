use Rattle.std.proofs.Common.{◌++◌, [], map, sym, ◌∙◌, ap}
use Rattle.merge_spec.specs.Units.{units_of, spaced_of}
use Rattle.merge_spec.specs.Conflicts.{conflict_at}
use Rattle.bib_places.specs.PlacesSeen.{place_seen}
use Rattle.bib_places.specs.ConflictsSeen.{conflict_seen}
use Rattle.bib_places.proofs.Lists.{gathered-next, gathered-all, flat_map-map, map-added}
use Rattle.bib_places.proofs.conflicts.conflicts_of.Goals as goal

pub places-preserved : goal.places-preserved
places-preserved g c rb ro rt sb so st =
    gathered-next (λ p. conflict_at (units_of rb) (units_of ro) (units_of rt) (place_seen (units_of ro) (units_of rt) p)) [] c.args.places.now c.places.k c.index-places-k.result
    (map conflict_seen c.places.conflicts.items) (map conflict_seen c.add.new.conflicts.items) c.places-test.true c.index-places-k.is
    (ap (map conflict_seen) c.in_ok-add.ensures ∙ map-added conflict_seen c.places.conflicts.items _
    ∙ ap (λ l. map conflict_seen c.places.conflicts.items ++ l)
    (c.in_ok-conflict.ensures rb sb.reads ro so.reads rt st.reads _ _ _ (c.unit_at-b.ensures rb (spaced_of rb) sb.are) (c.unit_at-o.ensures ro (spaced_of ro) so.are) (c.unit_at-t.ensures rt (spaced_of rt) st.are)))
    (c.places.invariant rb ro rt sb so st)

pub returns : goal.returns
returns g c rb ro rt sb so st =
    let at = conflict_at (units_of rb) (units_of ro) (units_of rt) in
    let seen = place_seen (units_of ro) (units_of rt) in
    gathered-all (λ p. at (seen p)) [] c.args.places.now c.places.k (map conflict_seen c.places.conflicts.items) c.places-test.false (c.places.invariant rb ro rt sb so st)
    ∙ sym (flat_map-map at seen c.args.places.now)
