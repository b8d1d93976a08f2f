use Rattle.std.proofs.Common.{sym, ◌∙◌, ap, ap₂, map}
use Rattle.std.proofs.lemmas.Bool.{and_from}
use Rattle.merge_spec.specs.Units.{units_of, spaced_of}
use Rattle.merge_spec.specs.Merged.{are_once}
use Rattle.bib_places.specs.OwnedLabels.{owned_seen}
use Rattle.bib_places.specs.Tallies.{CountsLabels, count_of}
use Rattle.bib_places.specs.PlacesSeen.{place_seen}
use Rattle.bib_places.proofs.Lists.{map-map, same-length}
use Rattle.bib_places.proofs.checking.is_merge.Goals as goal

pub returns : goal.returns
returns g c seldom rb ro rt sb so st =
    let places = c.args.places.now in
    let once_b = sym (ap₂ are_once (same-length rb c.args.base.now.units.now (spaced_of rb) sb.are) (sym (map-map (λ p. p.base) (place_seen (units_of ro) (units_of rt)) places))) ∙ c.in_ok-are_once.ensures c.if-not-branch.false in
    let once_o = sym (ap₂ are_once (same-length ro c.args.ours.now.units.now (spaced_of ro) so.are) (sym (map-map (λ p. p.ours) (place_seen (units_of ro) (units_of rt)) places))) ∙ c.in_ok-are_once-2.ensures c.if-not-branch-2.false in
    let once_t = sym (ap₂ are_once (same-length rt c.args.theirs.now.units.now (spaced_of rt) st.are) (sym (map-map (λ p. p.theirs) (place_seen (units_of ro) (units_of rt)) places))) ∙ c.in_ok-are_once-3.ensures c.if-not-branch-3.false in
    let counts : CountsLabels c.in_ok-given.given.counts (map owned_seen c.args.given.now) = λ text. c.in_ok-given.ensures text ∙ ap (count_of text) (c.as_slice.ensures.value ∙ c.in_ok-codes.ensures) in
    and_from _ _ (and_from _ _ (and_from _ _ (and_from _ _ once_b once_o) once_t) (c.in_ok-are_settled.ensures c.if-not-branch-4.false rb ro rt sb so st (map owned_seen c.args.given.now) counts))
    (c.in_ok-seldom.ensures seldom ro rt (spaced_of ro) (spaced_of rt) so.are st.are)
