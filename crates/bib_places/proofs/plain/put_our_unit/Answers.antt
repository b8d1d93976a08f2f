use Rattle.std.proofs.Common.{Some, None, [], ◌∷◌, map, refl, sym, ◌∙◌}
use Rattle.merge_spec.specs.Units.{label_of, units_of, spaced_of}
use Rattle.bib_units.specs.Labels.{label_seen}
use Rattle.bib_places.specs.LabelCodes.{code_of}
use Rattle.bib_places.specs.PlacesSeen.{place_seen}
use Rattle.bib_places.specs.Queues.{left_of}
use Rattle.bib_places.proofs.PlacesPut.{first-goes, ours-past}
use Rattle.bib_places.proofs.PlainPlaces.{seen-unit, unseen, has-here, put-place}
use Rattle.bib_places.proofs.Queued.{taken-unit}
use Rattle.bib_places.proofs.plain.put_our_unit.Goals as goal

pub returns-in_ok-push-in-Some : goal.returns-in_ok-push-in-Some
returns-in_ok-push-in-Some g c rb ro rt sb so st labels counts queued left so_far =
    let unit = c.in-Some.unit in
    let label = label_seen unit.label in
    let old = c.args.of_theirs.now in
    let new = c.take-t.new.self in
    let here = seen-unit ro c.args.ours.now.units.now (spaced_of ro) c.args.n unit so.are (sym c.unit_with.ensures ∙ c.in-Some.is) in
    let taken = c.take-t.ensures (map code_of (map label_of (units_of rt))) queued in (
      taken.0,
      put-place labels rb ro rt c.args.places.now.items c.push.new.self.items c.in_ok-place-in-Some.place None (Some c.args.n) c.take-t.result label [] []
          (c.args.n ∷ left) left (left_of old) (left_of new)
          c.in_ok-push-in-Some.ensures.items c.in_ok-place-in-Some.ensures.base c.in_ok-place-in-Some.ensures.ours c.in_ok-place-in-Some.ensures.theirs
          refl tt
          (record { goes = first-goes c.args.n left; labelled = has-here (units_of ro) label c.args.n here.0 here.1 here.2 })
          (taken-unit (units_of rt) label c.as_slice.result.now c.take-t.result (left_of old) (left_of new) (c.as_slice.ensures ∙ c.in_ok-code-in-Some.ensures) taken.1)
          (c.in_ok-place-in-Some.ensures.may rb ro rt sb so st labels counts) c.in_ok-place-in-Some.ensures.white so_far,
    )

pub returns-in-None : goal.returns-in-None
returns-in-None g c rb ro rt sb so st labels counts queued left so_far = (
  queued,
  ours-past labels (units_of rb) (units_of ro) (units_of rt) (map (place_seen (units_of ro) (units_of rt)) c.args.places.now.items) c.args.n [] left (left_of c.args.of_theirs.now)
      (unseen ro c.args.ours.now.units.now (spaced_of ro) c.args.n so.are (sym c.unit_with.ensures ∙ c.in-None.is)) so_far,
)
