use Rattle.bib_steps.proofs.Words.{rules, ◌≡◌, ◌++◌, true, List, sym, subst, ◌∙◌, ap, ap₂, arith, take-append-drop, Piece, IsComposable, composed}
use Rattle.bib_steps.proofs.Positions.{as_many_ends, front_ends_before, first_part, later_part, part_short, part_in_turn}
use Rattle.bib_steps.proofs.amending.amend.Goals as goal

pub ends_before-requires-clause-within : goal.ends_before-requires-clause-within
ends_before-requires-clause-within c = omega (arith, c.near-before.ensures.inside, as_many_ends c.args.pieces.now c.args.ends.now c.requires.ends)

-- the parts are the edit, and fit in turn with it
parted : (part others edit ps : List Piece) → part ++ others ≡ edit → IsComposable ps edit → IsComposable ps (part ++ others)
parted part others edit ps e c = subst (IsComposable ps) (sym e) c

pub ends_before-requires-clause-short : goal.ends_before-requires-clause-short
ends_before-requires-clause-short c =
    let two : c.split_at.result.0.now ++ c.split_at.result.1.now ≡ c.args.edit.now = ap₂ (λ (xs ys : List Piece). xs ++ ys) c.split_at.ensures.front c.split_at.ensures.back ∙ take-append-drop _ c.args.edit.now in
    part_short c.args.pieces.now c.split_at.result.0.now (first_part c.args.pieces.now c.split_at.result.0.now c.split_at.result.1.now (parted c.split_at.result.0.now c.split_at.result.1.now c.args.edit.now c.args.pieces.now two c.requires.composable))

pub replacement-requires-clause-composable : goal.replacement-requires-clause-composable
replacement-requires-clause-composable c =
    let two : c.split_at.result.0.now ++ c.split_at.result.1.now ≡ c.args.edit.now = ap₂ (λ (xs ys : List Piece). xs ++ ys) c.split_at.ensures.front c.split_at.ensures.back ∙ take-append-drop _ c.args.edit.now in
    later_part c.args.pieces.now c.split_at.result.0.now c.split_at.result.1.now (parted c.split_at.result.0.now c.split_at.result.1.now c.args.edit.now c.args.pieces.now two c.requires.composable)

pub replacement-requires-then-ends_before-clause-composable : goal.replacement-requires-then-ends_before-clause-composable
replacement-requires-then-ends_before-clause-composable c =
    let two : c.split_at.result.0.now ++ c.split_at.result.1.now ≡ c.args.edit.now = ap₂ (λ (xs ys : List Piece). xs ++ ys) c.split_at.ensures.front c.split_at.ensures.back ∙ take-append-drop _ c.args.edit.now in
    first_part c.args.pieces.now c.split_at.result.0.now c.split_at.result.1.now (parted c.split_at.result.0.now c.split_at.result.1.now c.args.edit.now c.args.pieces.now two c.requires.composable)

pub returns-then-ends_before-clause-value : goal.returns-then-ends_before-clause-value
returns-then-ends_before-clause-value c =
    let two : c.split_at.result.0.now ++ c.split_at.result.1.now ≡ c.args.edit.now = ap₂ (λ (xs ys : List Piece). xs ++ ys) c.split_at.ensures.front c.split_at.ensures.back ∙ take-append-drop _ c.args.edit.now in
    let is : c.ends_before.result ≡ true = search rules in
    part_in_turn c.in_ok-first.first c.args.pieces.now c.split_at.result.0.now c.split_at.result.1.now _ c.near-before.result.from c.near-before.result.to
    c.in_ok-first.ensures.from c.in_ok-first.ensures.to c.in_ok-first.ensures.pieces c.in_ok-last.ensures.value
    (parted c.split_at.result.0.now c.split_at.result.1.now c.args.edit.now c.args.pieces.now two c.requires.composable) c.requires.ends.apart c.near-before.ensures (c.ends_before.ensures.others is)
    (front_ends_before c.args.pieces.now c.args.ends.now c.split_at.result.1.now c.near-before.result.to c.requires.ends c.near-before.ensures.inside (λ s. c.ends_before.ensures.pieces is))
    ∙ ap (composed c.args.pieces.now) two

pub near-span-requires-clause-short : goal.near-span-requires-clause-short
near-span-requires-clause-short c = part_short c.args.pieces.now c.args.edit.now c.requires.composable
