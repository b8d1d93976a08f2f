use Rattle.bib_journal.proofs.Words.{◌≡◌, ℕ, get_or, List, sym, subst, ◌∙◌, ap, arith, file_limit, Piece, EndBy, reversed, HasSpot, edited_at, spot_inside, spot_within}
use Rattle.std.proofs.Common.{set}
use Rattle.bib_steps.specs.Amending.{edited}
use Rattle.bib_steps.proofs.Edited.{edited_at-set}
use Rattle.bib_journal.proofs.inside.make_inside.Goals as goal

-- the list with the edited piece in its place
edited_there : (ps : List Piece) (n k : ℕ) (p r q : Piece) → HasSpot n k ps → p ≡ get_or ps n p → r ≡ edited k q p → set ps n r ≡ edited_at n k q ps
edited_there ps n k p r q h e is = ap (set ps n) is ∙ sym (edited_at-set n k q ps p h e)

pub index_mut-piece-requires : goal.index_mut-piece-requires
index_mut-piece-requires g c = omega (arith, spot_inside c.args.spot.position c.args.spot.byte c.args.list.now.items c.requires.spot)

pub make_in_piece-requires-clause-inside : goal.make_in_piece-requires-clause-inside
make_in_piece-requires-clause-inside g c =
    spot_within c.args.spot.position c.args.spot.byte c.args.list.now.items c.index_mut-piece.result.now c.requires.spot c.index_mut-piece.ensures.value

pub renew_ends_after-requires-clause-inside : goal.renew_ends_after-requires-clause-inside
renew_ends_after-requires-clause-inside g c =
    omega (arith, spot_inside c.args.spot.position c.args.spot.byte c.args.list.now.items c.requires.spot, c.as_slice.ensures.len)

pub renew_ends_after-requires-clause-short : goal.renew_ends_after-requires-clause-short
renew_ends_after-requires-clause-short g c =
    let is : c.as_slice.result.now ≡ edited_at c.args.spot.position c.args.spot.byte c.args.more.now c.args.list.now.items
    = c.as_slice.ensures.value
    ∙ edited_there c.args.list.now.items c.args.spot.position c.args.spot.byte c.index_mut-piece.result.now c.make_in_piece.new.piece c.args.more.now
    c.requires.spot c.index_mut-piece.ensures.value c.in_ok-make_in_piece.ensures.edited in
    subst (λ (ps : List Piece). EndBy file_limit ps) (sym is) c.requires.short

pub renew_ends_after-requires-clause-short_ends : goal.renew_ends_after-requires-clause-short_ends
renew_ends_after-requires-clause-short_ends g c =
    let is : c.as_slice.result.now ≡ edited_at c.args.spot.position c.args.spot.byte c.args.more.now c.args.list.now.items
    = c.as_slice.ensures.value
    ∙ edited_there c.args.list.now.items c.args.spot.position c.args.spot.byte c.index_mut-piece.result.now c.make_in_piece.new.piece c.args.more.now
    c.requires.spot c.index_mut-piece.ensures.value c.in_ok-make_in_piece.ensures.edited in
    subst (λ (ps : List Piece). EndBy file_limit (reversed ps)) (sym is) c.requires.short_ends

pub returns-clause-list : goal.returns-clause-list
returns-clause-list g c =
    edited_there c.args.list.now.items c.args.spot.position c.args.spot.byte c.index_mut-piece.result.now c.make_in_piece.new.piece c.args.more.now
    c.requires.spot c.index_mut-piece.ensures.value c.in_ok-make_in_piece.ensures.edited
