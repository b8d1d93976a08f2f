use Rattle.bib_steps.proofs.Words.{◌-◌, ◌≤◌, length, take, drop, ◌∙◌, ap, arith, old_end, new_end}
use Rattle.bib_steps.proofs.Positions.{as_many_ends, end_at_new, near_composable, near_value, composable_as, composed_as}
use Rattle.bib_steps.proofs.amending.replacement.Goals as goal

pub end_before-middle_end-requires : goal.end_before-middle_end-requires
end_before-middle_end-requires c = omega (arith, c.requires.near.ordered, c.requires.near.inside, as_many_ends c.args.pieces.now c.args.ends.now c.requires.ends)

pub compose_at-requires : goal.compose_at-requires
compose_at-requires c =
    let within : c.args.span.from ≤ length c.args.pieces.now = omega (arith, c.requires.near.ordered, c.requires.near.inside) in
    composable_as (old_end 0 (take c.args.span.from c.args.pieces.now)) (new_end 0 0 (take c.args.span.from c.args.pieces.now)) _ _
    (take (c.args.span.to - c.args.span.from) (drop c.args.span.from c.args.pieces.now)) _ c.args.part.now
    (c.end_of-end.ensures ∙ ap (old_end 0) c.split_at.ensures.front)
    (c.end_before-middle_end.ensures ∙ end_at_new c.args.pieces.now c.args.ends.now c.args.span.from c.requires.ends.each within)
    (c.split_at-2.ensures.front ∙ ap (take (c.args.span.to - c.args.span.from)) c.split_at.ensures.back)
    (near_composable c.args.pieces.now c.args.part.now c.args.span.from c.args.span.to c.requires.composable c.requires.ends.apart c.requires.near)

pub returns-clause-pieces : goal.returns-clause-pieces
returns-clause-pieces c =
    let within : c.args.span.from ≤ length c.args.pieces.now = omega (arith, c.requires.near.ordered, c.requires.near.inside) in
    c.in_ok-pieces.ensures
    ∙ composed_as (old_end 0 (take c.args.span.from c.args.pieces.now)) (new_end 0 0 (take c.args.span.from c.args.pieces.now)) _ _
    (take (c.args.span.to - c.args.span.from) (drop c.args.span.from c.args.pieces.now)) _ c.args.part.now
    (c.end_of-end.ensures ∙ ap (old_end 0) c.split_at.ensures.front)
    (c.end_before-middle_end.ensures ∙ end_at_new c.args.pieces.now c.args.ends.now c.args.span.from c.requires.ends.each within)
    (c.split_at-2.ensures.front ∙ ap (take (c.args.span.to - c.args.span.from)) c.split_at.ensures.back)

pub returns-clause-value : goal.returns-clause-value
returns-clause-value c =
    let within : c.args.span.from ≤ length c.args.pieces.now = omega (arith, c.requires.near.ordered, c.requires.near.inside) in
    near_value c.args.pieces.now c.args.part.now c.args.span.from c.args.span.to c.in_ok-pieces.pieces c.requires.composable c.requires.ends.apart c.requires.near
    (c.in_ok-pieces.ensures
    ∙ composed_as (old_end 0 (take c.args.span.from c.args.pieces.now)) (new_end 0 0 (take c.args.span.from c.args.pieces.now)) _ _
    (take (c.args.span.to - c.args.span.from) (drop c.args.span.from c.args.pieces.now)) _ c.args.part.now
    (c.end_of-end.ensures ∙ ap (old_end 0) c.split_at.ensures.front)
    (c.end_before-middle_end.ensures ∙ end_at_new c.args.pieces.now c.args.ends.now c.args.span.from c.requires.ends.each within)
    (c.split_at-2.ensures.front ∙ ap (take (c.args.span.to - c.args.span.from)) c.split_at.ensures.back))
