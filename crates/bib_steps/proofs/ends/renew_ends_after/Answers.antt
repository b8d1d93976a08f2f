use Rattle.bib_steps.proofs.Words.{◌≡◌, ◌+◌, ◌-◌, List, ℕ, length, take, drop, refl, sym, subst, arith, AreSomeEnds}
use Rattle.bib_steps.proofs.MovedEnds.{all_ends}
use Rattle.bib_steps.proofs.Edited.{changed_last}
use Rattle.bib_steps.proofs.ends.renew_ends_after.Goals as goal

pub renew_end-requires-clause-ends_inside : goal.renew_end-requires-clause-ends_inside
renew_end-requires-clause-ends_inside c = omega (arith, c.requires.inside, (changed_last c.args.pieces.now c.args.ends.now.items c.args.position c.requires.ends c.requires.inside).inside)

pub renew_end-requires-clause-front : goal.renew_end-requires-clause-front
renew_end-requires-clause-front c = (changed_last c.args.pieces.now c.args.ends.now.items c.args.position c.requires.ends c.requires.inside).front

pub move_ends-requires-clause-inside : goal.move_ends-requires-clause-inside
move_ends-requires-clause-inside c =
    omega (arith, c.renew_end.ensures.len, (changed_last c.args.pieces.now c.args.ends.now.items c.args.position c.requires.ends c.requires.inside).inside)

pub move_ends-requires-clause-moves : goal.move_ends-requires-clause-moves
move_ends-requires-clause-moves c =
    let count : ℕ = length c.args.pieces.now - (c.args.position + 1) in
    subst (λ (es : List ℕ). AreSomeEnds (take count (drop (c.args.position + 1) c.args.pieces.now)) (take count es)) (sym c.renew_end.ensures.rest)
    (changed_last c.args.pieces.now c.args.ends.now.items c.args.position c.requires.ends c.requires.inside).moves

pub returns : goal.returns
returns c =
    let many : length c.args.pieces.now ≡ length c.renew_end.new.ends.items
    = omega (arith, c.requires.inside, c.renew_end.ensures.len, (changed_last c.args.pieces.now c.args.ends.now.items c.args.position c.requires.ends c.requires.inside).inside) in
    all_ends c.args.pieces.now c.renew_end.new.ends.items c.move_ends.new.ends.items (length c.args.pieces.now) (length c.args.pieces.now) refl many c.move_ends.ensures.items
