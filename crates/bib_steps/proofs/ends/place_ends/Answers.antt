use Rattle.bib_steps.proofs.Words.{ℕ, List, take, ◌∙◌, ap, arith, old_end, length-ends, end_at, ends_from}
use Rattle.bib_steps.proofs.MovedEnds.{mid_is, between_is, short_between, are_put}
use Rattle.bib_steps.proofs.ends.place_ends.Goals as goal

pub add_ends-requires-clause-short_ends : goal.add_ends-requires-clause-short_ends
add_ends-requires-clause-short_ends c =
    short_between c.args.pieces.now c.split_at-2.result.0.now c.args.from c.args.count c.end_of-end.result c.end_before-new_end.result
    (c.end_of-end.ensures ∙ ap (old_end 0) c.split_at.ensures.front)
    (mid_is c.args.pieces.now c.args.ends.now.items c.args.from c.end_before-new_end.result (omega (arith, c.requires.within)) c.requires.front
    (c.end_before-new_end.ensures ∙ ap (λ es. end_at es c.args.from) c.deref.ensures.value))
    (c.split_at-2.ensures.front ∙ ap (take c.args.count) c.split_at.ensures.back) c.requires.short_ends

pub returns-clause-front : goal.returns-clause-front
returns-clause-front c =
    let new : List ℕ = ends_from c.end_of-end.result c.end_before-new_end.result c.split_at-2.result.0.now in
    (are_put c.args.pieces.now c.args.ends.now.items c.bring.new.items.items new c.args.from c.args.to c.args.count c.requires.within c.requires.front
    (between_is c.args.pieces.now c.split_at-2.result.0.now c.args.from c.args.count c.end_of-end.result c.end_before-new_end.result
    (c.end_of-end.ensures ∙ ap (old_end 0) c.split_at.ensures.front)
    (mid_is c.args.pieces.now c.args.ends.now.items c.args.from c.end_before-new_end.result (omega (arith, c.requires.within)) c.requires.front
    (c.end_before-new_end.ensures ∙ ap (λ es. end_at es c.args.from) c.deref.ensures.value))
    (c.split_at-2.ensures.front ∙ ap (take c.args.count) c.split_at.ensures.back))
    (c.bring.ensures.items c.args.ends.now.items new c.add_ends.ensures.items (length-ends c.end_of-end.result c.end_before-new_end.result c.split_at-2.result.0.now ∙ c.split_at-2.ensures.front_len))).front

pub returns-clause-rest : goal.returns-clause-rest
returns-clause-rest c =
    let new : List ℕ = ends_from c.end_of-end.result c.end_before-new_end.result c.split_at-2.result.0.now in
    (are_put c.args.pieces.now c.args.ends.now.items c.bring.new.items.items new c.args.from c.args.to c.args.count c.requires.within c.requires.front
    (between_is c.args.pieces.now c.split_at-2.result.0.now c.args.from c.args.count c.end_of-end.result c.end_before-new_end.result
    (c.end_of-end.ensures ∙ ap (old_end 0) c.split_at.ensures.front)
    (mid_is c.args.pieces.now c.args.ends.now.items c.args.from c.end_before-new_end.result (omega (arith, c.requires.within)) c.requires.front
    (c.end_before-new_end.ensures ∙ ap (λ es. end_at es c.args.from) c.deref.ensures.value))
    (c.split_at-2.ensures.front ∙ ap (take c.args.count) c.split_at.ensures.back))
    (c.bring.ensures.items c.args.ends.now.items new c.add_ends.ensures.items (length-ends c.end_of-end.result c.end_before-new_end.result c.split_at-2.result.0.now ∙ c.split_at-2.ensures.front_len))).rest
