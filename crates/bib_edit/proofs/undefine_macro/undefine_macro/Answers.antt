use Rattle.bib_edit.proofs.Words.{◌≡◌, List, ◌∙◌, sym, ap, [], ◌∷◌, both_ways, err_from_is_err_and, pieces_of, made_base, Referred, WouldMerge, IsAccepted, IsFirstRefusal, Piece, ArePiecesOf, IsAllowedEdit}
use Rattle.bib_edit.proofs.FoundItems.{defined-within}
use Rattle.bib_edit.proofs.OpenFiles.{opens-as}
use Rattle.bib_edit.proofs.AskedEdits.{of-undefine_macro}
use Rattle.bib_edit.proofs.UndefinedMacro.{undefine-pieces, undefine-seen, undefine-merges, undefine-accepted, refused-name, refused-undefining}
use Rattle.bib_data.specs.declared.edit.Edit.TheVariants as asked
use Rattle.bib_edit.proofs.Results.{if_ok-as, on_ok-of}
use Rattle.bib_edit.proofs.undefine_macro.undefine_macro.Goals as goal

pub returns-in_err-n-clause-refused : goal.returns-in_err-n-clause-refused
returns-in_err-n-clause-refused g c =
    let p = err_from_is_err_and c.from_residual.result c.from_residual.ensures.1 in
    rw (p.1, p.2) (refused-undefining c.args.name.now c.args.db.now c.requires (sym c.is_name.ensures ∙ c.if-not-is_name.false) c.in_err-n.field-0.0 c.in_err-n.ensures.refused)

pub returns-then-not-is_name-clause-refused : goal.returns-then-not-is_name-clause-refused
returns-then-not-is_name-clause-refused g c = refused-name c.args.name.now c.args.db.now c.requires (sym c.is_name.ensures ∙ c.if-not-is_name.true)

pub is_seen-requires : goal.is_seen-requires
is_seen-requires g c = c.in_ok-n.ensures.lone

pub returns-then-branch-clause-refused : goal.returns-then-branch-clause-refused
returns-then-branch-clause-refused g c db reads = of-undefine_macro c.args.name.now c.requires (λ e. IsFirstRefusal made_base db e Referred)
    (undefine-seen c.args.name.now db (sym c.is_name.ensures ∙ c.if-not-is_name.false) c.in_ok-n.n (c.in_ok-n.ensures.lone db reads)
    (sym (c.in_ok-is_seen.ensures.seen db reads) ∙ c.if-branch.true))

pub joins_cleanly-requires : goal.joins_cleanly-requires
joins_cleanly-requires g c db reads = defined-within c.args.name.now db c.in_ok-n.n (c.in_ok-n.ensures.lone db reads)

pub returns-then-not-branch-clause-refused : goal.returns-then-not-branch-clause-refused
returns-then-not-branch-clause-refused g c db reads = of-undefine_macro c.args.name.now c.requires (λ e. IsFirstRefusal made_base db e WouldMerge)
    (undefine-merges c.args.name.now db (sym c.is_name.ensures ∙ c.if-not-is_name.false) c.in_ok-n.n (c.in_ok-n.ensures.lone db reads)
    (sym (c.in_ok-is_seen.ensures.seen db reads) ∙ c.if-branch.false)
    (λ clean. both_ways c.in_ok-joins_cleanly.field-0 c.if-not-branch.true ((c.in_ok-joins_cleanly.ensures.clean db reads).1 clean)))

pub removal_of-requires : goal.removal_of-requires
removal_of-requires g c db reads = defined-within c.args.name.now db c.in_ok-n.n (c.in_ok-n.ensures.lone db reads)

pub returns-clause-pieces : goal.returns-clause-pieces
returns-clause-pieces g c =
    if_ok-as (λ (ps : List Piece). ps ≡ c.in_ok-removal.removal ∷ []) (ArePiecesOf c.args.db.now (asked.UndefineMacro c.args.name.now))
    (λ ps is db reads. of-undefine_macro c.args.name.now c.requires (λ e. ps ≡ pieces_of made_base db e)
    (is ∙ ap (λ (p : Piece). p ∷ []) (c.in_ok-removal.ensures.removal db reads)
    ∙ sym (undefine-pieces c.args.name.now db (sym c.is_name.ensures ∙ c.if-not-is_name.false) c.in_ok-n.n (c.in_ok-n.ensures.lone db reads))))
    c.one_piece.result c.one_piece.ensures.pieces

pub returns-clause-allowed : goal.returns-clause-allowed
returns-clause-allowed g c =
    on_ok-of (IsAllowedEdit c.args.db.now (asked.UndefineMacro c.args.name.now)) c.one_piece.result
    (λ db reads. of-undefine_macro c.args.name.now c.requires (λ e. IsAccepted made_base db e)
    (undefine-accepted c.args.name.now db (sym c.is_name.ensures ∙ c.if-not-is_name.false) c.in_ok-n.n (c.in_ok-n.ensures.lone db reads)
    (sym (c.in_ok-is_seen.ensures.seen db reads) ∙ c.if-branch.false)
    c.args.db.now (opens-as c.args.db.now db c.one_reading.ensures c.opens.ensures reads) ((c.in_ok-joins_cleanly.ensures.clean db reads).0 c.if-not-branch.false)))
