use Rattle.bib_steps.proofs.Words.{◌-◌, ◌≤◌, length, take, drop, ◌∙◌, ap, arith, old_end, new_end}
use Rattle.bib_steps.proofs.Positions.{part_short, as_many_ends, end_at_new, near_composable, composable_as}
use Rattle.bib_steps.proofs.Edited.{lies_inside}
use Rattle.bib_steps.proofs.inside.spot_of.Goals as goal

pub near-span-requires-clause-short : goal.near-span-requires-clause-short
near-span-requires-clause-short c = part_short c.args.pieces.now c.args.edit.now c.requires.composable

pub end_before-middle_end-requires : goal.end_before-middle_end-requires
end_before-middle_end-requires c = omega (arith, c.near-span.ensures.ordered, c.near-span.ensures.inside, as_many_ends c.args.pieces.now c.args.ends.now c.requires.ends)

pub begin_inside-requires : goal.begin_inside-requires
begin_inside-requires c =
    let within : c.near-span.result.from ≤ length c.args.pieces.now = omega (arith, c.near-span.ensures.ordered, c.near-span.ensures.inside) in
    composable_as (old_end 0 (take c.near-span.result.from c.args.pieces.now)) (new_end 0 0 (take c.near-span.result.from c.args.pieces.now)) _ _
    (take (c.near-span.result.to - c.near-span.result.from) (drop c.near-span.result.from c.args.pieces.now)) _ c.args.edit.now
    (c.end_of-end.ensures ∙ ap (old_end 0) c.split_at.ensures.front)
    (c.end_before-middle_end.ensures ∙ end_at_new c.args.pieces.now c.args.ends.now c.near-span.result.from c.requires.ends.each within)
    (c.split_at-2.ensures.front ∙ ap (take (c.near-span.result.to - c.near-span.result.from)) c.split_at.ensures.back)
    (near_composable c.args.pieces.now c.args.edit.now c.near-span.result.from c.near-span.result.to c.requires.composable c.requires.ends.apart c.near-span.ensures)

pub returns-in-Some : goal.returns-in-Some
returns-in-Some c =
    let within : c.near-span.result.from ≤ length c.args.pieces.now = omega (arith, c.near-span.ensures.ordered, c.near-span.ensures.inside) in
    lies_inside c.args.pieces.now c.args.edit.now c.split_at-2.result.0.now c.near-span.result.from c.near-span.result.to c.end_of-end.result c.end_before-middle_end.result c.in-Some.byte
    c.requires.composable c.requires.ends.apart c.near-span.ensures
    (c.end_of-end.ensures ∙ ap (old_end 0) c.split_at.ensures.front)
    (c.end_before-middle_end.ensures ∙ end_at_new c.args.pieces.now c.args.ends.now c.near-span.result.from c.requires.ends.each within)
    (c.split_at-2.ensures.front ∙ ap (take (c.near-span.result.to - c.near-span.result.from)) c.split_at.ensures.back)
    c.in-Some.ensures
