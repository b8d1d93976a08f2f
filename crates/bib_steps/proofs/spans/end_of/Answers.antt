use Rattle.bib_steps.proofs.Words.{◌≡◌, ◌+◌, ◌-◌, length, Some, sym, ◌∙◌, ap, ap₂, slice_get, Piece}
use Rattle.bib_steps.proofs.Positions.{old_end_got}
use Rattle.bib_steps.proofs.spans.end_of.Goals as goal

pub returns-in-Some : goal.returns-in-Some
returns-in-Some c =
    let got : Some c.in-Some.piece.now ≡ slice_get c.args.pieces.now (length c.args.pieces.now - 1) = cc (c.in-Some.ensures.value) in
    ap₂ (λ n m. n + m) (ap (λ (p : Piece). p.place) c.piece.view_is) (ap length (c.as_slice.ensures ∙ ap (λ (p : Piece). p.old) c.piece.view_is))
    ∙ sym (old_end_got c.args.pieces.now c.in-Some.piece.now got)
