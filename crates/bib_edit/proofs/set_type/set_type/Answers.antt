use Rattle.bib_edit.proofs.Words.{sym, ◌∙◌, err_from_is_err_and}
use Rattle.bib_edit.proofs.FoundItems.{held-within}
use Rattle.bib_edit.proofs.LimitTests.{not_over}
use Rattle.bib_edit.proofs.PieceLengths.{asked-short}
use Rattle.bib_edit.proofs.TypedEntries.{refused-name, refused-key, pieces-set_type, refused-file, allowed-set_type}
use Rattle.bib_data.specs.declared.edit.Edit.TheVariants.{SetType}
use Rattle.bib_edit.proofs.set_type.set_type.Goals as goal

pub returns-then-not-is_type-clause-refused : goal.returns-then-not-is_type-clause-refused
returns-then-not-is_type-clause-refused g c = refused-name c.args.db.now c.args.key.now c.args.kind_name.now c.requires (sym c.is_type.ensures ∙ c.if-not-is_type.true)

pub returns-in_err-n-clause-refused : goal.returns-in_err-n-clause-refused
returns-in_err-n-clause-refused g c =
    let p = err_from_is_err_and c.from_residual.result c.from_residual.ensures.1 in
    rw (p.1, p.2) (refused-key c.args.db.now c.args.key.now c.args.kind_name.now c.requires (sym c.is_type.ensures ∙ c.if-not-is_type.false) c.in_err-n.field-0.0 c.in_err-n.ensures.refused)

pub typing-requires : goal.typing-requires
typing-requires g c db reads = held-within c.args.key.now db c.in_ok-n.n (c.in_ok-n.ensures.lone db reads)

pub are_too_long-requires : goal.are_too_long-requires
are_too_long-requires g c = asked-short c.args.db.now (SetType c.args.key.now c.args.kind_name.now) _ (pieces-set_type c.args.db.now c.args.key.now c.args.kind_name.now c.requires (sym c.is_type.ensures ∙ c.if-not-is_type.false) c.in_ok-n.n c.in_ok-n.ensures.lone c.in_ok-piece.piece c.in_ok-piece.ensures.piece _ (c.as_slice.ensures ∙ c.in_ok-pieces.ensures.pieces)) c.opens.ensures

pub returns-then-are_too_long-clause-refused : goal.returns-then-are_too_long-clause-refused
returns-then-are_too_long-clause-refused g c = refused-file c.args.db.now c.args.key.now c.args.kind_name.now c.requires (sym c.is_type.ensures ∙ c.if-not-is_type.false) c.in_ok-n.n c.in_ok-n.ensures.lone c.in_ok-piece.piece c.in_ok-piece.ensures.piece _ (c.as_slice.ensures ∙ c.in_ok-pieces.ensures.pieces) (c.are_too_long.ensures.0 c.if-are_too_long.true)

pub returns-clause-pieces : goal.returns-clause-pieces
returns-clause-pieces g c = pieces-set_type c.args.db.now c.args.key.now c.args.kind_name.now c.requires (sym c.is_type.ensures ∙ c.if-not-is_type.false) c.in_ok-n.n c.in_ok-n.ensures.lone c.in_ok-piece.piece c.in_ok-piece.ensures.piece c.in_ok-pieces.pieces c.in_ok-pieces.ensures.pieces

pub returns-clause-allowed : goal.returns-clause-allowed
returns-clause-allowed g c =
    allowed-set_type c.args.db.now c.args.key.now c.args.kind_name.now c.requires (sym c.is_type.ensures ∙ c.if-not-is_type.false) c.in_ok-n.n c.in_ok-n.ensures.lone c.in_ok-piece.piece c.in_ok-piece.ensures.piece _ (c.as_slice.ensures ∙ c.in_ok-pieces.ensures.pieces) (not_over c.are_too_long.result _ _ c.are_too_long.ensures.1 c.if-are_too_long.false)
    c.opens.ensures
