use Rattle.std.proofs.Common.{◌++◌, [], Option, map, option_map, sym, ◌∙◌, ap}
use Rattle.std.specs.Option.{option_to_list}
use Rattle.merge_spec.specs.Units.{Label}
use Rattle.merge_spec.specs.Merged as merged
use Rattle.merge_spec.specs.Merged.{label_left, unit_at}
use Rattle.bib_places.specs.LabelCodes.{code_of}
use Rattle.bib_places.specs.PlacesSeen.{outcome_seen, place_seen}
use Rattle.bib_places.proofs.Lists.{gathered-next, gathered-all, flat_map-map, left-codes}
use Rattle.bib_places.proofs.codes.codes_left.Goals as goal

pub places-preserved : goal.places-preserved
places-preserved c ro rt uo ut are_o are_t =
    gathered-next (λ p. option_to_list (option_map code_of (label_left (unit_at (map (λ s. s.unit) uo) p.ours) (unit_at (map (λ s. s.unit) ut) p.theirs) (outcome_seen (unit_at (map (λ s. s.unit) uo) p.ours) (unit_at (map (λ s. s.unit) ut) p.theirs) p.outcome)))) []
    c.args.places.now c.places.k c.index-places-k.result c.places.codes.items c.add_code.new.codes.items c.places-test.true c.index-places-k.is
    (c.in_ok-add_code.ensures ∙ ap (λ o. c.places.codes.items ++ option_to_list (option_map code_of o)) (c.label_left.ensures ro rt _ _ (c.unit_at-o.ensures ro uo are_o) (c.unit_at-t.ensures rt ut are_t)))
    (c.places.invariant ro rt uo ut are_o are_t)

pub returns : goal.returns
returns c ro rt uo ut are_o are_t =
    let left : merged.Place → Option Label = λ q. label_left (unit_at (map (λ s. s.unit) uo) q.ours) (unit_at (map (λ s. s.unit) ut) q.theirs) q.outcome in
    let seen = place_seen (map (λ s. s.unit) uo) (map (λ s. s.unit) ut) in
    gathered-all (λ p. option_to_list (option_map code_of (left (seen p)))) [] c.args.places.now c.places.k c.places.codes.items c.places-test.false (c.places.invariant ro rt uo ut are_o are_t)
    ∙ sym (left-codes code_of left (map seen c.args.places.now) ∙ flat_map-map (λ q. option_to_list (option_map code_of (left q))) seen c.args.places.now)
