use Rattle.bib_steps.proofs.Words.{rules, ◌<◌, ◌≤◌, ◌++◌, length, take, drop, ◌∙◌, ap, arith, get_or_default_zero, old_end, end_at}
use Rattle.bib_steps.proofs.MovedEnds.{mid_is, MoveThere, next_short, move_there, moved_so}
use Rattle.bib_steps.proofs.ends.move_ends.Goals as goal

pub end_after-new-requires : goal.end_after-new-requires
end_after-new-requires c =
    let some : c.args.from < c.args.until = search rules in
    next_short c.args.pieces.now c.args.from c.end_of-end.result c.end_before-new_end.result c.index-pieces-from.result (omega (arith, some, c.requires.within)) c.index-pieces-from.is
    (c.end_of-end.ensures ∙ ap (old_end 0) c.split_at.ensures.front)
    (mid_is c.args.pieces.now c.args.ends.now.items c.args.from c.end_before-new_end.result (omega (arith, some, c.requires.within)) c.requires.front
    (c.end_before-new_end.ensures ∙ ap (λ es. end_at es c.args.from) c.deref.ensures.value))
    c.requires.short_ends

pub move_between-requires-clause-moves : goal.move_between-requires-clause-moves
move_between-requires-clause-moves c =
    let some : c.args.from < c.args.until = search rules in
    let inside : c.args.until ≤ length c.args.ends.now.items = search rules in
    (move_there c.args.pieces.now c.args.ends.now.items c.args.from c.args.until c.end_of-end.result c.end_before-new_end.result c.index-old.result.now c.end_after-new.result c.index-pieces-from.result
    some c.requires.within inside c.index-pieces-from.is
    (c.index-old.ensures ∙ get_or_default_zero c.args.ends.now.items c.args.from c.index-old.result.now (omega (arith, some, inside))) c.end_after-new.ensures
    (c.end_of-end.ensures ∙ ap (old_end 0) c.split_at.ensures.front)
    (mid_is c.args.pieces.now c.args.ends.now.items c.args.from c.end_before-new_end.result (omega (arith, some, c.requires.within)) c.requires.front
    (c.end_before-new_end.ensures ∙ ap (λ es. end_at es c.args.from) c.deref.ensures.value))
    c.requires.moves c.requires.short_ends).moves

pub returns-clause-items : goal.returns-clause-items
returns-clause-items c =
    let some : c.args.from < c.args.until = search rules in
    let inside : c.args.until ≤ length c.args.ends.now.items = search rules in
    let there : MoveThere c.args.pieces.now c.args.ends.now.items c.args.from c.args.until c.index-old.result.now c.end_after-new.result
    = move_there c.args.pieces.now c.args.ends.now.items c.args.from c.args.until c.end_of-end.result c.end_before-new_end.result c.index-old.result.now c.end_after-new.result c.index-pieces-from.result
    some c.requires.within inside c.index-pieces-from.is
    (c.index-old.ensures ∙ get_or_default_zero c.args.ends.now.items c.args.from c.index-old.result.now (omega (arith, some, inside))) c.end_after-new.ensures
    (c.end_of-end.ensures ∙ ap (old_end 0) c.split_at.ensures.front)
    (mid_is c.args.pieces.now c.args.ends.now.items c.args.from c.end_before-new_end.result (omega (arith, some, c.requires.within)) c.requires.front
    (c.end_before-new_end.ensures ∙ ap (λ es. end_at es c.args.from) c.deref.ensures.value))
    c.requires.moves c.requires.short_ends in
    moved_so c.args.pieces.now c.args.ends.now.items c.move_between.new.places.items c.args.from c.args.until c.requires.ordered c.requires.within c.requires.front
    (c.move_between.ensures.items ∙ ap (λ es. take c.args.from c.args.ends.now.items ++ (es ++ drop c.args.until c.args.ends.now.items)) there.there)
