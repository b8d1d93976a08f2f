use Rattle.std.proofs.Common.{Some, ◌∷◌, map, sym, ◌∙◌, subst}
use Rattle.merge_spec.specs.Units.{label_of, units_of, spaced_of}
use Rattle.bib_units.specs.Labels.{label_seen}
use Rattle.bib_places.specs.LabelCodes.{code_of}
use Rattle.bib_places.specs.PlacesSeen.{place_seen}
use Rattle.bib_places.specs.Queues.{left_of}
use Rattle.bib_places.proofs.PlacesPut.{Has, first-goes, base-past}
use Rattle.bib_places.proofs.PlainPlaces.{seen-unit, unseen, put-place}
use Rattle.bib_places.proofs.Queued.{taken-unit}
use Rattle.bib_places.proofs.plain.put_base_unit.Goals as goal

pub returns-in_ok-push-in-Some : goal.returns-in_ok-push-in-Some
returns-in_ok-push-in-Some g c rb ro rt sb so st labels counts queued_o queued_t left so_far =
    let unit = c.in-Some.unit in
    let label = label_seen unit.label in
    let old_o = c.args.of_ours.now in
    let old_t = c.args.of_theirs.now in
    let new_o = c.take-o.new.self in
    let new_t = c.take-t.new.self in
    let here = seen-unit rb c.args.base.now.units.now (spaced_of rb) c.args.n unit sb.are (sym c.unit_with.ensures ∙ c.in-Some.is) in
    let taken_o = c.take-o.ensures (map code_of (map label_of (units_of ro))) queued_o in
    let taken_t = c.take-t.ensures (map code_of (map label_of (units_of rt))) queued_t in (
      taken_o.0,
      taken_t.0,
      put-place labels rb ro rt c.args.places.now.items c.push.new.self.items c.in_ok-place-in-Some.place (Some c.args.n) c.take-o.result c.take-t.result label (c.args.n ∷ left) left
          (left_of old_o) (left_of new_o) (left_of old_t) (left_of new_t)
          c.in_ok-push-in-Some.ensures.items c.in_ok-place-in-Some.ensures.base c.in_ok-place-in-Some.ensures.ours c.in_ok-place-in-Some.ensures.theirs
          (first-goes c.args.n left) (subst (λ o. Has label o) (sym here.1) here.2)
          (taken-unit (units_of ro) label c.as_slice.result.now c.take-o.result (left_of old_o) (left_of new_o) (c.as_slice.ensures ∙ c.in_ok-code-in-Some.ensures) taken_o.1)
          (taken-unit (units_of rt) label c.as_slice-in-Some.result.now c.take-t.result (left_of old_t) (left_of new_t) (c.as_slice-in-Some.ensures ∙ c.in_ok-code-in-Some.ensures) taken_t.1)
          (c.in_ok-place-in-Some.ensures.may rb ro rt sb so st labels counts) c.in_ok-place-in-Some.ensures.white so_far,
    )

pub returns-in-None : goal.returns-in-None
returns-in-None g c rb ro rt sb so st labels counts queued_o queued_t left so_far = (
  queued_o,
  queued_t,
  base-past labels (units_of rb) (units_of ro) (units_of rt) (map (place_seen (units_of ro) (units_of rt)) c.args.places.now.items) c.args.n left (left_of c.args.of_ours.now) (left_of c.args.of_theirs.now)
      (unseen rb c.args.base.now.units.now (spaced_of rb) c.args.n sb.are (sym c.unit_with.ensures ∙ c.in-None.is)) so_far,
)
