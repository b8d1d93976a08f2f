use Rattle.std.proofs.Common.{[], map, drop, ◌+◌, subst}
use Rattle.merge_spec.specs.Units.{units_of}
use Rattle.bib_places.specs.PlacesSeen.{place_seen}
use Rattle.bib_places.specs.NumbersLeft.{AreSoFar}
use Rattle.bib_places.specs.Queues.{left_of}
use Rattle.bib_places.proofs.PlacesPut.{next-left, ours-at-end}
use Rattle.bib_places.proofs.plain.put_ours.Goals as goal

pub numbers-preserved : goal.numbers-preserved
numbers-preserved g c rb ro rt sb so st labels counts queued start =
    let so_far = c.numbers.invariant rb ro rt sb so st labels counts queued start in
    c.in_ok-put_our_unit.ensures rb ro rt sb so st labels counts so_far.0 (drop (c.numbers.k + 1) c.args.numbers.now)
    (subst (λ l. AreSoFar labels (units_of rb) (units_of ro) (units_of rt) (map (place_seen (units_of ro) (units_of rt)) c.numbers.places.items) [] l (left_of c.numbers.of_theirs))
    (next-left c.args.numbers.now c.numbers.k c.numbers-test.true) so_far.1)

pub returns : goal.returns
returns g c rb ro rt sb so st labels counts queued start =
    let so_far = c.numbers.invariant rb ro rt sb so st labels counts queued start in
    (so_far.0, ours-at-end labels (units_of rb) (units_of ro) (units_of rt) _ c.args.numbers.now c.numbers.k _ _ c.numbers-test.false so_far.1)
