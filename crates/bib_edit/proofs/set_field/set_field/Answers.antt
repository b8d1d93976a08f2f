use Rattle.bib_edit.proofs.Words.{sym, ◌∙◌, arith, err_from_is_err_and, name_limit, IsValueWithin, IsPartsOf, SetField}
use Rattle.bib_edit.proofs.Results.{if_some-at, if_none-at}
use Rattle.bib_edit.proofs.LimitTests.{not_over}
use Rattle.bib_edit.proofs.PieceLengths.{asked-short}
use Rattle.bib_edit.proofs.SettingPieces.{item-within}
use Rattle.bib_edit.proofs.SettingFields.{refused-name, refused-value, refused-key, refused-piece, pieces-set_field, refused-file, refused-text, allowed-set_field}
use Rattle.bib_edit.proofs.set_field.set_field.Goals as goal

pub returns-then-not-is_name-clause-refused : goal.returns-then-not-is_name-clause-refused
returns-then-not-is_name-clause-refused g c = refused-name c.args.db.now c.args.key.now c.args.field.now c.args.value.now c.requires (sym c.is_name.ensures ∙ c.if-not-is_name.true)

pub returns-in_default-clause-refused : goal.returns-in_default-clause-refused
returns-in_default-clause-refused g c = refused-value c.args.db.now c.args.key.now c.args.field.now c.args.value.now c.requires (sym c.is_name.ensures ∙ c.if-not-is_name.false) (if_none-at (IsValueWithin name_limit c.args.value.now → ⊥) _ c.in_default.is c.in_ok-parts.ensures.none)

pub returns-in_err-n-clause-refused : goal.returns-in_err-n-clause-refused
returns-in_err-n-clause-refused g c =
    let p = err_from_is_err_and c.from_residual-in_err-n.result c.from_residual-in_err-n.ensures.1 in
    rw (p.1, p.2) (refused-key c.args.db.now c.args.key.now c.args.field.now c.args.value.now c.requires (sym c.is_name.ensures ∙ c.if-not-is_name.false) _ (if_some-at (IsPartsOf c.args.value.now) _ c.in-Some.parts c.in-Some.is c.in_ok-parts.ensures.parts) c.in_err-n.field-0.0 c.in_err-n.ensures.refused)

pub is_text_too_long-requires-clause-value : goal.is_text_too_long-requires-clause-value
is_text_too_long-requires-clause-value g c = if_some-at (IsPartsOf c.args.value.now) _ c.in-Some.parts c.in-Some.is c.in_ok-parts.ensures.parts

pub setting-requires : goal.setting-requires
setting-requires g c = (c.args.key.now, λ db reads. (c.in_ok-n.ensures.lone db reads).item)

pub is_text_too_long-requires-clause-place : goal.is_text_too_long-requires-clause-place
is_text_too_long-requires-clause-place g c db reads =
    let within = item-within c.args.db.now c.in_ok-n.n (c.args.key.now, λ db reads. (c.in_ok-n.ensures.lone db reads).item) db reads in omega (arith, within)

pub returns-in_err-piece-clause-refused : goal.returns-in_err-piece-clause-refused
returns-in_err-piece-clause-refused g c =
    let p = err_from_is_err_and c.from_residual-in_err-piece.result c.from_residual-in_err-piece.ensures.1 in
    rw (p.1, p.2) (refused-piece c.args.db.now c.args.key.now c.args.field.now c.args.value.now c.requires (sym c.is_name.ensures ∙ c.if-not-is_name.false) _ (if_some-at (IsPartsOf c.args.value.now) _ c.in-Some.parts c.in-Some.is c.in_ok-parts.ensures.parts) c.in_ok-n.n c.in_ok-n.ensures.lone c.in_err-piece.field-0.0 c.in_err-piece.ensures.refused c.in_err-piece.ensures.only)

pub are_too_long-requires : goal.are_too_long-requires
are_too_long-requires g c = asked-short c.args.db.now (SetField c.args.key.now c.args.field.now c.args.value.now) _ (pieces-set_field c.args.db.now c.args.key.now c.args.field.now c.args.value.now c.requires (sym c.is_name.ensures ∙ c.if-not-is_name.false) _ (if_some-at (IsPartsOf c.args.value.now) _ c.in-Some.parts c.in-Some.is c.in_ok-parts.ensures.parts) c.in_ok-n.n c.in_ok-n.ensures.lone c.in_ok-piece.ensures.once c.in_ok-piece.piece c.in_ok-piece.ensures.piece _ (c.as_slice.ensures ∙ c.in_ok-pieces.ensures.pieces)) c.opens.ensures

pub returns-then-are_too_long-clause-refused : goal.returns-then-are_too_long-clause-refused
returns-then-are_too_long-clause-refused g c = refused-file c.args.db.now c.args.key.now c.args.field.now c.args.value.now c.requires (sym c.is_name.ensures ∙ c.if-not-is_name.false) _ (if_some-at (IsPartsOf c.args.value.now) _ c.in-Some.parts c.in-Some.is c.in_ok-parts.ensures.parts) c.in_ok-n.n c.in_ok-n.ensures.lone c.in_ok-piece.ensures.once c.in_ok-piece.piece c.in_ok-piece.ensures.piece _ (c.as_slice.ensures ∙ c.in_ok-pieces.ensures.pieces) (c.are_too_long.ensures.0 c.if-are_too_long.true)

pub returns-then-is_text_too_long-clause-refused : goal.returns-then-is_text_too_long-clause-refused
returns-then-is_text_too_long-clause-refused g c =
    refused-text c.args.db.now c.args.key.now c.args.field.now c.args.value.now c.requires (sym c.is_name.ensures ∙ c.if-not-is_name.false) _ (if_some-at (IsPartsOf c.args.value.now) _ c.in-Some.parts c.in-Some.is c.in_ok-parts.ensures.parts) c.in_ok-n.n c.in_ok-n.ensures.lone c.in_ok-piece.ensures.once c.in_ok-piece.piece c.in_ok-piece.ensures.piece _ (c.as_slice.ensures ∙ c.in_ok-pieces.ensures.pieces) (not_over c.are_too_long.result _ _ c.are_too_long.ensures.1 c.if-are_too_long.false)
    c.opens.ensures c.is_text_too_long.result c.is_text_too_long.ensures c.if-is_text_too_long.true

pub returns-clause-pieces : goal.returns-clause-pieces
returns-clause-pieces g c = pieces-set_field c.args.db.now c.args.key.now c.args.field.now c.args.value.now c.requires (sym c.is_name.ensures ∙ c.if-not-is_name.false) _ (if_some-at (IsPartsOf c.args.value.now) _ c.in-Some.parts c.in-Some.is c.in_ok-parts.ensures.parts) c.in_ok-n.n c.in_ok-n.ensures.lone c.in_ok-piece.ensures.once c.in_ok-piece.piece c.in_ok-piece.ensures.piece c.in_ok-pieces.pieces c.in_ok-pieces.ensures.pieces

pub returns-clause-allowed : goal.returns-clause-allowed
returns-clause-allowed g c =
    allowed-set_field c.args.db.now c.args.key.now c.args.field.now c.args.value.now c.requires (sym c.is_name.ensures ∙ c.if-not-is_name.false) _ (if_some-at (IsPartsOf c.args.value.now) _ c.in-Some.parts c.in-Some.is c.in_ok-parts.ensures.parts) c.in_ok-n.n c.in_ok-n.ensures.lone c.in_ok-piece.ensures.once c.in_ok-piece.piece c.in_ok-piece.ensures.piece _ (c.as_slice.ensures ∙ c.in_ok-pieces.ensures.pieces) (not_over c.are_too_long.result _ _ c.are_too_long.ensures.1 c.if-are_too_long.false)
    c.opens.ensures c.is_text_too_long.result c.is_text_too_long.ensures c.if-is_text_too_long.false
