use Rattle.bib_edit.proofs.Words.{◌≡◌, List, ◌∙◌, sym, ap, [], ◌∷◌, both_ways, err_from_is_err_and, pieces_of, made_base, Piece, ArePiecesOf, IsAllowedEdit}
use Rattle.bib_edit.proofs.FoundItems.{held-within}
use Rattle.bib_edit.proofs.OpenFiles.{opens-as}
use Rattle.bib_edit.proofs.AskedEdits.{of-remove_entry}
use Rattle.bib_edit.proofs.Removed.{remove-referred, remove-merges, remove-pieces, remove-accepted, refused_address}
use Rattle.bib_data.specs.declared.edit.Edit.TheVariants as asked
use Rattle.bib_edit.proofs.Results.{if_ok-as, on_ok-of}
use Rattle.bib_edit.proofs.remove_entry.remove_entry.Goals as goal

pub returns-in_err-n-clause-refused : goal.returns-in_err-n-clause-refused
returns-in_err-n-clause-refused g c =
    let p = err_from_is_err_and c.from_residual.result c.from_residual.ensures.1 in
    rw (p.1, p.2) (refused_address c.args.key.now c.args.db.now c.requires c.in_err-n.field-0.0 c.in_err-n.ensures.refused)

pub returns-then-is_referred-clause-refused : goal.returns-then-is_referred-clause-refused
returns-then-is_referred-clause-refused g c db reads = of-remove_entry c.args.key.now c.requires _
    (remove-referred c.args.key.now db c.in_ok-n.n (c.in_ok-n.ensures.lone db reads) ((c.is_referred.ensures db reads).0 c.if-is_referred.true))

pub joins_cleanly-requires : goal.joins_cleanly-requires
joins_cleanly-requires g c db reads = held-within c.args.key.now db c.in_ok-n.n (c.in_ok-n.ensures.lone db reads)

pub returns-then-not-branch-clause-refused : goal.returns-then-not-branch-clause-refused
returns-then-not-branch-clause-refused g c db reads = of-remove_entry c.args.key.now c.requires _
    (remove-merges c.args.key.now db c.in_ok-n.n (c.in_ok-n.ensures.lone db reads)
    (λ refers. both_ways c.is_referred.result c.if-is_referred.false ((c.is_referred.ensures db reads).1 refers))
    (λ clean. both_ways c.in_ok-joins_cleanly.field-0 c.if-not-branch.true ((c.in_ok-joins_cleanly.ensures.clean db reads).1 clean)))

pub removal_of-requires : goal.removal_of-requires
removal_of-requires g c db reads = held-within c.args.key.now db c.in_ok-n.n (c.in_ok-n.ensures.lone db reads)

pub returns-clause-pieces : goal.returns-clause-pieces
returns-clause-pieces g c =
    if_ok-as (λ (ps : List Piece). ps ≡ c.in_ok-removal.removal ∷ []) (ArePiecesOf c.args.db.now (asked.RemoveEntry c.args.key.now))
    (λ ps is db reads. of-remove_entry c.args.key.now c.requires (λ e. ps ≡ pieces_of made_base db e)
    (is ∙ ap (λ (p : Piece). p ∷ []) (c.in_ok-removal.ensures.removal db reads)
    ∙ sym (remove-pieces c.args.key.now db c.in_ok-n.n (c.in_ok-n.ensures.lone db reads))))
    c.one_piece.result c.one_piece.ensures.pieces

pub returns-clause-allowed : goal.returns-clause-allowed
returns-clause-allowed g c =
    on_ok-of (IsAllowedEdit c.args.db.now (asked.RemoveEntry c.args.key.now)) c.one_piece.result
    (λ db reads. of-remove_entry c.args.key.now c.requires _
    (remove-accepted c.args.key.now db c.in_ok-n.n (c.in_ok-n.ensures.lone db reads)
    (λ refers. both_ways c.is_referred.result c.if-is_referred.false ((c.is_referred.ensures db reads).1 refers))
    c.args.db.now (opens-as c.args.db.now db c.one_reading.ensures c.opens.ensures reads) ((c.in_ok-joins_cleanly.ensures.clean db reads).0 c.if-not-branch.false)))
