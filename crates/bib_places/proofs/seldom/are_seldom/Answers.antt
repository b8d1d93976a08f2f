use Rattle.std.proofs.Common.{map, ◌∙◌}
use Rattle.merge_spec.specs.Units.{label_of}
use Rattle.merge_spec.specs.Merged.{labels_left}
use Rattle.bib_places.specs.PlacesSeen.{place_seen}
use Rattle.bib_places.proofs.Counting.{seldom-of}
use Rattle.bib_places.proofs.LeftOnce.{single-seldom}
use Rattle.bib_places.proofs.seldom.are_seldom.Goals as goal

pub returns : goal.returns
returns c seldom ro rt uo ut are_o are_t =
    let ours = map (λ s. s.unit) uo in
    let theirs = map (λ s. s.unit) ut in
    seldom-of c.as_slice-2.result.now c.as_slice-3.result.now c.as_slice-4.result.now (labels_left ours theirs (map (place_seen ours theirs) c.args.places.now)) (map label_of ours) (map label_of theirs)
    (c.as_slice-2.ensures.value ∙ c.in_ok-merged.ensures ro rt uo ut are_o are_t) (c.as_slice-3.ensures.value ∙ c.in_ok-of_ours.ensures ro uo are_o) (c.as_slice-4.ensures.value ∙ c.in_ok-of_theirs.ensures rt ut are_t)
    (c.in_ok-seldom.ensures seldom)

pub returns-then-single : goal.returns-then-single
returns-then-single c seldom ro rt uo ut are_o are_t =
    let ours = map (λ s. s.unit) uo in
    let theirs = map (λ s. s.unit) ut in
    single-seldom ours theirs (map (place_seen ours theirs) c.args.places.now) c.as_slice.result.now (c.as_slice.ensures.value ∙ c.in_ok-merged.ensures ro rt uo ut are_o are_t) (c.in_ok-single.ensures c.if-single.true)
