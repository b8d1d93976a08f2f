use Rattle.std.proofs.Common.{◌≤◌, arith}
use Rattle.bib_spec.specs.Pieces.{Piece}
use Rattle.history_spec.specs.Shifting.{moved_back}
use Rattle.bib_pieces.proofs.PieceTests.{stands_tested}
use Rattle.bib_pieces.proofs.fitting.stands.Goals as goal

pub returns-then-place-bytes : goal.returns-then-place-bytes
returns-then-place-bytes c =
    let p : Piece = record { place = c.piece.inside.place; old = c.piece.inside.old; new = c.piece.inside.new } in
    let begins : c.args.at ≤ p.place = omega arith in
    let test = stands_tested c.args.bytes.now c.as_slice.result.now (moved_back c.args.at p) c.starts_with.result c.as_slice.ensures c.if-place-bytes.true c.starts_with.ensures.value in
    rw (← c.piece.view_is) (λ t. (begins, test.0 t), λ s. test.1 s.1)
