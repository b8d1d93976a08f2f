use Rattle.journal_format.proofs.Words.{◌≡◌, ◌+◌, List, ℕ, arith, ap, sym, ◌∙◌, subst, length, err_from_is_err_and, Piece, end_of, Text, BeginsWithPieces, IsWrongPiece, HasWrongPieces}
use Rattle.journal_format.proofs.PieceTexts.{ArePiecesRead, stops_weaker, no_pieces_read, one_more_piece, pieces_read, pieces_wrong}
use Rattle.journal_format.proofs.steps.split_pieces.Goals as goal

pub piece-init : goal.piece-init
piece-init c =
    subst (λ (pieces : List Piece). ArePiecesRead c.in_ok-count.count 0 c.in_ok-count.after.now pieces 0 c.in_ok-count.after.now)
    (sym c.in_ok-pieces.ensures.items) (no_pieces_read c.in_ok-count.count c.in_ok-count.after.now)

pub piece-preserved : goal.piece-preserved
piece-preserved c =
    let more = one_more_piece c.in_ok-count.count c.piece._n c.in_ok-count.after.now c.piece.pieces.items c.piece.from c.piece.rest.now _ c.in_ok-piece.after.now
    c.piece.invariant c.piece-test.true c.in_ok-piece.ensures.read in
    let ends : c.piece-in-piece.inside.place + length c.as_slice.result.now ≡ end_of c.in_ok-piece.piece =
    ap (λ (old : Text). c.piece-in-piece.inside.place + length old) c.as_slice.ensures ∙ ap end_of c.piece-in-piece.view_is in
    subst (λ (from : ℕ). ArePiecesRead c.in_ok-count.count (c.piece._n + 1) c.in_ok-count.after.now c.push.new.self.items from c.in_ok-piece.after.now) (sym ends)
    (subst (λ (pieces : List Piece). ArePiecesRead c.in_ok-count.count (c.piece._n + 1) c.in_ok-count.after.now pieces (end_of c.in_ok-piece.piece) c.in_ok-piece.after.now)
    (sym c.in_ok-push.ensures.items) more)

pub returns-in_err-piece-clause-wrong : goal.returns-in_err-piece-clause-wrong
returns-in_err-piece-clause-wrong c =
    let p = err_from_is_err_and c.from_residual-in_err-piece.result c.from_residual-in_err-piece.ensures.1 in
    rw (p.1, p.2) (stops_weaker (IsWrongPiece c.piece.from c.piece.rest.now) (HasWrongPieces c.args.text.now)
    (pieces_wrong c.args.text.now c.in_ok-count.count c.piece._n c.in_ok-count.after.now c.piece.pieces.items c.piece.from c.piece.rest.now
    c.in_ok-count.ensures.read c.piece.invariant c.piece-test.true) _ c.in_err-piece.ensures.wrong)

pub returns-clause-read : goal.returns-clause-read
returns-clause-read c =
    let all : c.piece._n ≡ c.in_ok-count.count = omega arith in
    let read = pieces_read c.args.text.now c.in_ok-count.count c.piece._n c.in_ok-count.after.now c.piece.pieces.items c.piece.from c.piece.rest.now
    c.in_ok-count.ensures.read c.piece.invariant all in
    subst (λ (pieces : List Piece). BeginsWithPieces c.args.text.now pieces c.piece.rest.now) (sym c.from_vec.ensures) read
