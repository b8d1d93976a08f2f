use Rattle.bib_steps.proofs.Words.{rules, ◌≡◌, ◌≤◌, ◌+◌, ◌-◌, List, ◌++◌, length, take, drop, subst, sym, ◌∙◌, ap, ap₂, arith, refl, drop_at, length-take-le, Piece, ends_of, Replacement, length-ends}
use Rattle.bib_steps.proofs.Positions.{front_kept, length_kept, same_front_ends}
use Rattle.bib_steps.proofs.MovedEnds.{replaced_last, all_ends}
use Rattle.bib_steps.proofs.placing.put.Goals as goal

pub put_before-from-requires-clause-ends_inside : goal.put_before-from-requires-clause-ends_inside
put_before-from-requires-clause-ends_inside c =
    let inside : c.last.inside.from ≤ length c.args.pieces.now.items = search rules in
    omega (arith, inside, ap length c.requires.ends, length-ends 0 0 c.args.pieces.now.items)

pub put_before-from-requires-clause-front : goal.put_before-from-requires-clause-front
put_before-from-requires-clause-front c =
    let last : Replacement = record { from = c.last.inside.from; to = c.last.inside.to; pieces = c.into_vec-new.result.items } in
    let inside : c.last.inside.from ≤ length c.args.pieces.now.items = search rules in
    ap (take c.last.inside.from) c.requires.ends
    ∙ same_front_ends c.args.pieces.now.items c.replace.new.items.items c.last.inside.from inside
    (subst (λ (ps : List Piece). c.last.inside.from ≤ length ps) (sym c.replace.ensures.items) (length_kept last c.args.pieces.now.items c.last.inside.from (omega arith) inside))
    (sym (ap (take c.last.inside.from) c.replace.ensures.items ∙ front_kept last c.args.pieces.now.items c.last.inside.from (omega arith) inside))

pub put_before-from-requires-clause-ends_room : goal.put_before-from-requires-clause-ends_room
put_before-from-requires-clause-ends_room c =
    let same : length c.args.ends.now.items ≡ length c.args.pieces.now.items = ap length c.requires.ends ∙ length-ends 0 0 c.args.pieces.now.items in
    search rules

pub put_ends-requires-clause-inside : goal.put_ends-requires-clause-inside
put_ends-requires-clause-inside c =
    let inside : c.last.inside.from ≤ length c.args.pieces.now.items = search rules in
    let there : c.put_before-from.result + (c.last.inside.to - c.last.inside.from) + (c.len-len.result - (c.put_before-from.result + c.len-count.result)) ≡ length c.put_before-from.new.ends.items
    = (replaced_last c.args.pieces.now.items c.as_slice.result.now c.into_vec-new.result.items c.put_before-from.new.ends.items c.put_before-from.result c.last.inside.from c.last.inside.to
    (c.last.inside.to - c.last.inside.from) c.len-count.result c.len-len.result
    (search rules) (search rules) refl (search rules) (search rules) (search rules)
    (ap (drop c.put_before-from.result) c.as_slice.ensures.value ∙ c.put_before-from.ensures.others ∙ ap (drop c.last.inside.from) c.replace.ensures.items
    ∙ drop_at (take c.last.inside.from c.args.pieces.now.items) (c.into_vec-new.result.items ++ drop c.last.inside.to c.args.pieces.now.items) c.last.inside.from
    (length-take-le c.last.inside.from c.args.pieces.now.items inside))
    (c.put_before-from.ensures.ends
    ∙ ap₂ (λ ps es. take c.put_before-from.result (ends_of ps) ++ drop c.last.inside.from es) (sym c.as_slice.ensures.value) c.requires.ends)).inside in
    search rules

pub put_ends-requires-clause-room : goal.put_ends-requires-clause-room
put_ends-requires-clause-room c =
    let same : length c.args.ends.now.items ≡ length c.args.pieces.now.items = ap length c.requires.ends ∙ length-ends 0 0 c.args.pieces.now.items in
    search rules

pub put_ends-requires-clause-front : goal.put_ends-requires-clause-front
put_ends-requires-clause-front c =
    let inside : c.last.inside.from ≤ length c.args.pieces.now.items = search rules in
    (replaced_last c.args.pieces.now.items c.as_slice.result.now c.into_vec-new.result.items c.put_before-from.new.ends.items c.put_before-from.result c.last.inside.from c.last.inside.to
    (c.last.inside.to - c.last.inside.from) c.len-count.result c.len-len.result
    (search rules) (search rules) refl (search rules) (search rules) (search rules)
    (ap (drop c.put_before-from.result) c.as_slice.ensures.value ∙ c.put_before-from.ensures.others ∙ ap (drop c.last.inside.from) c.replace.ensures.items
    ∙ drop_at (take c.last.inside.from c.args.pieces.now.items) (c.into_vec-new.result.items ++ drop c.last.inside.to c.args.pieces.now.items) c.last.inside.from
    (length-take-le c.last.inside.from c.args.pieces.now.items inside))
    (c.put_before-from.ensures.ends
    ∙ ap₂ (λ ps es. take c.put_before-from.result (ends_of ps) ++ drop c.last.inside.from es) (sym c.as_slice.ensures.value) c.requires.ends)).front

pub put_ends-requires-clause-moves : goal.put_ends-requires-clause-moves
put_ends-requires-clause-moves c =
    let inside : c.last.inside.from ≤ length c.args.pieces.now.items = search rules in
    (replaced_last c.args.pieces.now.items c.as_slice.result.now c.into_vec-new.result.items c.put_before-from.new.ends.items c.put_before-from.result c.last.inside.from c.last.inside.to
    (c.last.inside.to - c.last.inside.from) c.len-count.result c.len-len.result
    (search rules) (search rules) refl (search rules) (search rules) (search rules)
    (ap (drop c.put_before-from.result) c.as_slice.ensures.value ∙ c.put_before-from.ensures.others ∙ ap (drop c.last.inside.from) c.replace.ensures.items
    ∙ drop_at (take c.last.inside.from c.args.pieces.now.items) (c.into_vec-new.result.items ++ drop c.last.inside.to c.args.pieces.now.items) c.last.inside.from
    (length-take-le c.last.inside.from c.args.pieces.now.items inside))
    (c.put_before-from.ensures.ends
    ∙ ap₂ (λ ps es. take c.put_before-from.result (ends_of ps) ++ drop c.last.inside.from es) (sym c.as_slice.ensures.value) c.requires.ends)).moves

pub returns-clause-ends : goal.returns-clause-ends
returns-clause-ends c =
    let inside : c.last.inside.from ≤ length c.args.pieces.now.items = search rules in
    all_ends c.put_before-from.new.pieces.items c.put_before-from.new.ends.items c.put_ends.new.ends.items c.len-len.result _ (search rules)
    ((replaced_last c.args.pieces.now.items c.as_slice.result.now c.into_vec-new.result.items c.put_before-from.new.ends.items c.put_before-from.result c.last.inside.from c.last.inside.to
    (c.last.inside.to - c.last.inside.from) c.len-count.result c.len-len.result
    (search rules) (search rules) refl (search rules) (search rules) (search rules)
    (ap (drop c.put_before-from.result) c.as_slice.ensures.value ∙ c.put_before-from.ensures.others ∙ ap (drop c.last.inside.from) c.replace.ensures.items
    ∙ drop_at (take c.last.inside.from c.args.pieces.now.items) (c.into_vec-new.result.items ++ drop c.last.inside.to c.args.pieces.now.items) c.last.inside.from
    (length-take-le c.last.inside.from c.args.pieces.now.items inside))
    (c.put_before-from.ensures.ends
    ∙ ap₂ (λ ps es. take c.put_before-from.result (ends_of ps) ++ drop c.last.inside.from es) (sym c.as_slice.ensures.value) c.requires.ends)).inside)
    (c.put_ends.ensures.items ∙ ap (λ ps. take c.len-len.result (ends_of ps) ++ drop (c.put_before-from.result + (c.last.inside.to - c.last.inside.from) + (c.len-len.result - (c.put_before-from.result + c.len-count.result))) c.put_before-from.new.ends.items) c.as_slice.ensures.value)
