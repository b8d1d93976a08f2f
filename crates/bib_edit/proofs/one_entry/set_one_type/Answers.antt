use Rattle.bib_edit.proofs.Words.{sym, ◌∙◌, err_from_is_err_and}
use Rattle.bib_edit.specs.Numbers.{which_seen}
use Rattle.bib_edit.proofs.LimitTests.{not_over}
use Rattle.bib_edit.proofs.MeantItems.{meant-within}
use Rattle.bib_edit.proofs.TypedOne.{refused-name_of_one, refused-key_of_one, pieces-type_of_one, within-type_of_one, refused-file_of_one, allowed-type_of_one}
use Rattle.bib_edit.proofs.one_entry.set_one_type.Goals as goal

pub returns-then-not-is_type-clause-refused : goal.returns-then-not-is_type-clause-refused
returns-then-not-is_type-clause-refused g c = refused-name_of_one c.args.db.now c.args.key c.args.kind_name.now (sym c.is_type.ensures ∙ c.if-not-is_type.true)

pub returns-in_err-n-clause-refused : goal.returns-in_err-n-clause-refused
returns-in_err-n-clause-refused g c =
    let p = err_from_is_err_and c.from_residual.result c.from_residual.ensures.1 in
    rw (p.1, p.2) (refused-key_of_one c.args.db.now c.args.key c.args.kind_name.now (sym c.is_type.ensures ∙ c.if-not-is_type.false) c.in_err-n.field-0.0 c.in_err-n.ensures.refused)

pub typing-requires : goal.typing-requires
typing-requires g c db reads = meant-within (which_seen c.args.key) db c.in_ok-n.n (c.in_ok-n.ensures.meant db reads).item

pub are_too_long-requires : goal.are_too_long-requires
are_too_long-requires g c = within-type_of_one c.args.db.now c.args.key c.args.kind_name.now (sym c.is_type.ensures ∙ c.if-not-is_type.false) c.in_ok-n.n c.in_ok-n.ensures.meant c.in_ok-piece.piece c.in_ok-piece.ensures.piece _ (c.as_slice.ensures ∙ c.in_ok-pieces.ensures.pieces) c.opens.ensures

pub returns-then-are_too_long-clause-refused : goal.returns-then-are_too_long-clause-refused
returns-then-are_too_long-clause-refused g c = refused-file_of_one c.args.db.now c.args.key c.args.kind_name.now (sym c.is_type.ensures ∙ c.if-not-is_type.false) c.in_ok-n.n c.in_ok-n.ensures.meant c.in_ok-piece.piece c.in_ok-piece.ensures.piece _ (c.as_slice.ensures ∙ c.in_ok-pieces.ensures.pieces) (c.are_too_long.ensures.0 c.if-are_too_long.true)

pub returns-clause-pieces : goal.returns-clause-pieces
returns-clause-pieces g c = pieces-type_of_one c.args.db.now c.args.key c.args.kind_name.now (sym c.is_type.ensures ∙ c.if-not-is_type.false) c.in_ok-n.n c.in_ok-n.ensures.meant c.in_ok-piece.piece c.in_ok-piece.ensures.piece c.in_ok-pieces.pieces c.in_ok-pieces.ensures.pieces

pub returns-clause-allowed : goal.returns-clause-allowed
returns-clause-allowed g c =
    allowed-type_of_one c.args.db.now c.args.key c.args.kind_name.now (sym c.is_type.ensures ∙ c.if-not-is_type.false) c.in_ok-n.n c.in_ok-n.ensures.meant c.in_ok-piece.piece c.in_ok-piece.ensures.piece _ (c.as_slice.ensures ∙ c.in_ok-pieces.ensures.pieces) (not_over c.are_too_long.result _ _ c.are_too_long.ensures.1 c.if-are_too_long.false)
    c.opens.ensures
