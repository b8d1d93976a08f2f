use Rattle.bib_steps.proofs.Words.{◌<◌, length, ◌∙◌, ap, arith, old_end, end_at}
use Rattle.bib_steps.proofs.MovedEnds.{mid_is, next_short, end_put}
use Rattle.bib_steps.proofs.ends.renew_end.Goals as goal

pub end_after-requires : goal.end_after-requires
end_after-requires c =
    next_short c.args.pieces.now c.args.position c.end_of-end.result c.end_before-new_end.result c.index-pieces-position.result c.requires.inside c.index-pieces-position.is
    (c.end_of-end.ensures ∙ ap (old_end 0) c.split_at.ensures.front)
    (mid_is c.args.pieces.now c.args.ends.now.items c.args.position c.end_before-new_end.result (omega (arith, c.requires.inside)) c.requires.front
    (c.end_before-new_end.ensures ∙ ap (λ es. end_at es c.args.position) c.deref.ensures.value))
    c.requires.short_ends

pub returns-clause-front : goal.returns-clause-front
returns-clause-front c =
    let inside : c.args.position < length c.args.ends.now.items = omega (arith, c.requires.ends_inside) in
    end_put c.args.pieces.now c.args.ends.now.items c.args.position c.end_of-end.result c.end_before-new_end.result c.end_after.result c.index-pieces-position.result
    c.requires.inside inside c.index-pieces-position.is
    (c.end_of-end.ensures ∙ ap (old_end 0) c.split_at.ensures.front)
    (mid_is c.args.pieces.now c.args.ends.now.items c.args.position c.end_before-new_end.result (omega (arith, c.requires.inside)) c.requires.front
    (c.end_before-new_end.ensures ∙ ap (λ es. end_at es c.args.position) c.deref.ensures.value))
    c.requires.front c.end_after.ensures
