use Rattle.bib_tokens.proofs.Words.{◌≡◌, take, sym, ◌∙◌, ap, ap₂, arith, option_map, Some, ◌+◌, true, Text, Part, part_bytes, part_view, token_at}
use Rattle.bib_tokens.proofs.PlacedValues.{StandsIn, placed-part, stands-within, stands-there, standing}
use Rattle.bib_tokens.proofs.tokens.token_of.Goals as goal

stands : (c : goal.After-part_len-len) → StandsIn c.args.value.now c.place-start.result (part_view c.part.result)
stands c = standing c.args.value.now c.args.parts.now c.args.n c.place-start.result (part_view c.part.result) c.requires.value c.place-start.ensures c.part.ensures

pub overflow_add-result : goal.overflow_add-result
overflow_add-result c =
    let within = stands-within c.args.value.now c.place-start.result (part_view c.part.result) (stands c) in
    let place = c.requires.place in omega (arith, within, place)

pub split_at-requires : goal.split_at-requires
split_at-requires c =
    let within = stands-within c.args.value.now c.place-start.result (part_view c.part.result) (stands c) in omega (arith, within)

pub split_at-requires-2 : goal.split_at-requires-2
split_at-requires-2 c =
    let within = stands-within c.args.value.now c.place-start.result (part_view c.part.result)
    (standing c.args.value.now c.args.parts.now c.args.n c.place-start.result (part_view c.part.result) c.requires.value c.place-start.ensures c.part.ensures) in
    omega (arith, within, c.part_len-len.ensures, c.split_at.ensures.back_len)

pub returns : goal.returns
returns c v ok same =
    let text : Text = c.args.value.now in
    let p : Part = part_view c.part.result in
    let there = stands-there text c.place-start.result p (standing text c.args.parts.now c.args.n c.place-start.result p c.requires.value c.place-start.ensures c.part.ensures) in
    let bytes : c.split_at-2.result.0.now ≡ part_bytes p =
    c.split_at-2.ensures.front ∙ ap₂ take c.part_len-len.ensures c.split_at.ensures.back ∙ there in
    ap (option_map token_at) (placed-part (λ q. true) c.args.at text c.args.parts.now c.args.n c.place-start.result p c.requires.value c.place-start.ensures c.part.ensures v ok same)
    ∙ ap (λ (t : Text). Some (c.args.at + c.place-start.result, t)) (sym bytes)
