use Rattle.bib_steps.proofs.Words.{rules, ◌≡◌, ◌+◌, ◌<◌, get_or, length, ◌∙◌, ap, arith, Piece}
use Rattle.std.proofs.lemmas.Bool.{ltb-true}
use Rattle.bib_steps.proofs.Positions.{as_many_ends, after_at}
use Rattle.bib_steps.proofs.near.is_after.Goals as goal

pub bounds-ends-position : goal.bounds-ends-position
bounds-ends-position c =
    let within : c.args.position < length c.args.pieces.now = search rules in
    omega (arith, as_many_ends c.args.pieces.now c.args.ends.now c.requires.ends)

pub returns-clause-after : goal.returns-clause-after
returns-clause-after c = λ t.
    let within : c.args.position < length c.args.pieces.now = search rules in
    let long : length c.as_slice.result.now ≡ length c.index-pieces-position.result.new = ap length (c.as_slice.ensures ∙ ap (λ (p : Piece). p.new) c.piece.view_is) in
    after_at c.args.pieces.now c.args.ends.now c.args.position c.args.place c.index-pieces-position.result c.requires.ends within c.index-pieces-position.is
    (omega (arith, long, ltb-true (c.args.place + length c.as_slice.result.now) (get_or c.args.ends.now c.args.position 0) t))
