use Rattle.bib_store.proofs.Words.{◌∙◌, List, sym, subst, ap, Piece, Fit, applied}
use Rattle.bib_spec.proofs.WayBack.{fit_back, applied-reversed}
use Rattle.bib_store.proofs.reversing.reverse.Goals as goal

pub returns-clause-fit : goal.returns-clause-fit
returns-clause-fit c text f =
    subst (λ (ps : List Piece). Fit ps (applied c.args.pieces.now text)) (sym c.in_ok-reverse_from.ensures) (fit_back c.args.pieces.now text f)

pub returns-clause-back : goal.returns-clause-back
returns-clause-back c text f =
    ap (λ (ps : List Piece). applied ps (applied c.args.pieces.now text)) c.in_ok-reverse_from.ensures ∙ applied-reversed c.args.pieces.now text f
