use Rattle.std.proofs.Common.{List, ℕ, [], map, sym, ◌∙◌, ap, subst}
use Rattle.bib_spec.specs.Text.{Text}
use Rattle.merge_spec.specs.Units.{units_of, spaced_of}
use Rattle.bib_places.specs.OwnedLabels.{owned_seen}
use Rattle.bib_places.specs.Tallies.{CountsLabels, count_of}
use Rattle.bib_places.specs.PlacesSeen.{place_seen}
use Rattle.bib_places.specs.NumbersLeft.{AreSoFar}
use Rattle.bib_places.specs.Queues.{left_of, AreOfUnits, AreQueued}
use Rattle.bib_places.proofs.Lists.{same-length}
use Rattle.bib_places.proofs.PlacesPut.{begin, all-put}
use Rattle.bib_places.proofs.Queued.{code-count}
use Rattle.bib_places.proofs.plain.plain_places.Goals as goal

pub returns : goal.returns
returns g c rb ro rt sb so st =
    let labels = map owned_seen c.args.given.now in
    let ub = units_of rb in
    let uo = units_of ro in
    let ut = units_of rt in
    let seen = place_seen uo ut in
    let counts : CountsLabels c.in_ok-tally.tally.counts labels = λ text. c.in_ok-tally.ensures text ∙ ap (count_of text) (c.as_slice.ensures.value ∙ c.in_ok-codes.ensures) in
    let of_ours = c.in_ok-of_ours.of_ours in
    let of_theirs = c.in_ok-of_theirs.of_theirs in
    let codes_o = c.as_slice-2.ensures.value ∙ c.in_ok-our_codes.ensures ro (spaced_of ro) so.are in
    let codes_t = c.as_slice-3.ensures.value ∙ c.in_ok-their_codes.ensures rt (spaced_of rt) st.are in
    let queued_o : AreOfUnits uo of_ours = subst (λ (l : List Text). AreQueued l of_ours.firsts of_ours.links.items (left_of of_ours)) codes_o c.in_ok-of_ours.ensures.queued in
    let queued_t : AreOfUnits ut of_theirs = subst (λ (l : List Text). AreQueued l of_theirs.firsts of_theirs.links.items (left_of of_theirs)) codes_t c.in_ok-of_theirs.ensures.queued in
    let first = begin labels ub uo ut (map seen c.new-places.result.items) c.as_slice-4.result.now (left_of of_ours) (left_of of_theirs) _ _ _
    (ap (map seen) c.new-places.ensures.items) (c.as_slice-4.ensures.value ∙ c.in_ok-of_base.ensures) c.in_ok-of_ours.ensures.all c.in_ok-of_theirs.ensures.all
    (same-length rb c.args.base.now.units.now (spaced_of rb) sb.are) (code-count uo c.as_slice-2.result.now codes_o) (code-count ut c.as_slice-3.result.now codes_t) in
    let second = c.in_ok-put_base.ensures rb ro rt sb so st labels counts queued_o queued_t first in
    let third = c.in_ok-put_ours.ensures rb ro rt sb so st labels counts second.1
    (subst (λ (l : List ℕ). AreSoFar labels ub uo ut (map seen c.put_base.new.places.items) [] l (left_of c.put_base.new.of_theirs)) (sym (c.as_slice-5.ensures.value ∙ c.in_ok-ours_left.ensures)) second.2) in
    let last = c.in_ok-put_theirs.ensures rb ro rt sb so st labels counts
    (subst (λ (l : List ℕ). AreSoFar labels ub uo ut (map seen c.put_ours.new.places.items) [] [] l) (sym (c.as_slice-6.ensures.value ∙ c.in_ok-theirs_left.ensures)) third.1) in
    all-put labels ub uo ut (map seen c.put_theirs.new.places.items) last
