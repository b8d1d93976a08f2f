use Rattle.bib_edit.proofs.Words.{◌<◌, ◌^◌, [], ◌∷◌, Option, sym, ◌∙◌, ap, subst, arith, name_limit, IsValueWithin, IsPartsOf, Field, Piece, holders, rows_end, set_at}
use Rattle.edit_spec.specs.Edits.{is_unclear}
use Rattle.bib_edit.specs.Numbers.{which_seen}
use Rattle.bib_edit.proofs.Results.{if_some-at, if_none-at}
use Rattle.bib_edit.proofs.LimitTests.{not_over}
use Rattle.bib_edit.proofs.MeantItems.{meant-within}
use Rattle.bib_edit.proofs.MeantFields.{lack-told, doubt-told}
use Rattle.bib_edit.proofs.SetOne.{set-one-misnamed, set-one-value, set-one-missing, set-one-lacking, set-one-unclear, set-one-within, set-one-goes, set-one-pieces, set-one-file, set-one-text, set-one-allowed}
use Rattle.bib_edit.proofs.one_entry.set_one_field.Goals as goal

pub returns-then-not-is_name-clause-refused : goal.returns-then-not-is_name-clause-refused
returns-then-not-is_name-clause-refused g c = set-one-misnamed c.args.db.now c.args.value.now (which_seen c.args.key) (which_seen c.args.field) (sym c.is_name.ensures ∙ c.if-not-is_name.true)

pub returns-in_default-clause-refused : goal.returns-in_default-clause-refused
returns-in_default-clause-refused g c = set-one-value c.args.db.now c.args.value.now (which_seen c.args.key) (which_seen c.args.field) (sym c.is_name.ensures ∙ c.if-not-is_name.false) (if_none-at (IsValueWithin name_limit c.args.value.now → ⊥) _ c.in_default.is c.in_ok-parts.ensures.none)

pub returns-in_default-item_meant-clause-refused : goal.returns-in_default-item_meant-clause-refused
returns-in_default-item_meant-clause-refused g c = set-one-missing c.args.db.now c.args.value.now (which_seen c.args.key) (which_seen c.args.field) (sym c.is_name.ensures ∙ c.if-not-is_name.false) _ (if_some-at (IsPartsOf c.args.value.now) _ c.in-Some.parts c.in-Some.is c.in_ok-parts.ensures.parts) (λ db reads. sym (c.in_default-item_meant.ensures db reads))

pub item-view-requires : goal.item-view-requires
item-view-requires g c db reads = meant-within (which_seen c.args.key) db c.in-Some-item_meant.n (sym (c.in-Some-item_meant.ensures db reads))

pub returns-then-is_lacking-clause-refused : goal.returns-then-is_lacking-clause-refused
returns-then-is_lacking-clause-refused g c = set-one-lacking c.args.db.now c.args.value.now (which_seen c.args.key) (which_seen c.args.field) (sym c.is_name.ensures ∙ c.if-not-is_name.false) _ (if_some-at (IsPartsOf c.args.value.now) _ c.in-Some.parts c.in-Some.is c.in_ok-parts.ensures.parts) c.in-Some-item_meant.n (λ db reads. sym (c.in-Some-item_meant.ensures db reads)) c.item-view.result c.item-view.ensures (lack-told c.args.field c.item-view.result.fields c.field_meant-meant.result c.field_meant-meant.ensures c.is_lacking.result c.is_lacking.ensures ∙ c.if-is_lacking.true)

pub returns-then-is_either_unclear-clause-refused : goal.returns-then-is_either_unclear-clause-refused
returns-then-is_either_unclear-clause-refused g c = set-one-unclear c.args.db.now c.args.value.now (which_seen c.args.key) (which_seen c.args.field) (sym c.is_name.ensures ∙ c.if-not-is_name.false) _ (if_some-at (IsPartsOf c.args.value.now) _ c.in-Some.parts c.in-Some.is c.in_ok-parts.ensures.parts) c.in-Some-item_meant.n (λ db reads. sym (c.in-Some-item_meant.ensures db reads)) c.item-view.result c.item-view.ensures (lack-told c.args.field c.item-view.result.fields c.field_meant-meant.result c.field_meant-meant.ensures c.is_lacking.result c.is_lacking.ensures ∙ c.if-is_lacking.false) (λ db reads. doubt-told c.args.field c.item-view.result.fields c.field_meant-meant.result c.field_meant-meant.ensures (is_unclear (which_seen c.args.key) (holders c.args.key.name.now db)) c.is_either_unclear.result (c.is_either_unclear.ensures db reads) ∙ c.if-is_either_unclear.true)

pub item_place-requires : goal.item_place-requires
item_place-requires g c db reads = let within = meant-within (which_seen c.args.key) db c.in-Some-item_meant.n (sym (c.in-Some-item_meant.ensures db reads)) in omega (arith, within)

pub set_piece-requires : goal.set_piece-requires
set_piece-requires g c =
    let within = set-one-within c.args.db.now c.args.value.now (which_seen c.args.key) (which_seen c.args.field) (sym c.is_name.ensures ∙ c.if-not-is_name.false) _ (if_some-at (IsPartsOf c.args.value.now) _ c.in-Some.parts c.in-Some.is c.in_ok-parts.ensures.parts) c.in-Some-item_meant.n (λ db reads. sym (c.in-Some-item_meant.ensures db reads)) c.item-view.result c.item-view.ensures (lack-told c.args.field c.item-view.result.fields c.field_meant-meant.result c.field_meant-meant.ensures c.is_lacking.result c.is_lacking.ensures ∙ c.if-is_lacking.false) c.item_place.result c.item_place.ensures c.opens.ensures in
    subst (λ (o : Option Field). (set_at c.item_place.result c.args.field.name.now c.args.value.now (rows_end c.item-view.result) o).place < 2 ^ 64) (sym c.field_meant-meant.ensures.field) (omega (arith, within))

pub are_too_long-requires : goal.are_too_long-requires
are_too_long-requires g c = set-one-goes c.args.db.now c.args.value.now (which_seen c.args.key) (which_seen c.args.field) (sym c.is_name.ensures ∙ c.if-not-is_name.false) _ (if_some-at (IsPartsOf c.args.value.now) _ c.in-Some.parts c.in-Some.is c.in_ok-parts.ensures.parts) c.in-Some-item_meant.n (λ db reads. sym (c.in-Some-item_meant.ensures db reads)) c.item-view.result c.item-view.ensures (lack-told c.args.field c.item-view.result.fields c.field_meant-meant.result c.field_meant-meant.ensures c.is_lacking.result c.is_lacking.ensures ∙ c.if-is_lacking.false) c.item_place.result c.item_place.ensures (λ db reads. doubt-told c.args.field c.item-view.result.fields c.field_meant-meant.result c.field_meant-meant.ensures (is_unclear (which_seen c.args.key) (holders c.args.key.name.now db)) c.is_either_unclear.result (c.is_either_unclear.ensures db reads) ∙ c.if-is_either_unclear.false) _ (c.as_slice.ensures ∙ c.in_ok-pieces.ensures.pieces ∙ ap (λ (p : Piece). p ∷ []) (c.in_ok-piece.ensures.piece ∙ ap (λ o. set_at c.item_place.result c.args.field.name.now c.args.value.now (rows_end c.item-view.result) o) c.field_meant-meant.ensures.field)) c.opens.ensures

pub returns-then-are_too_long-clause-refused : goal.returns-then-are_too_long-clause-refused
returns-then-are_too_long-clause-refused g c = set-one-file c.args.db.now c.args.value.now (which_seen c.args.key) (which_seen c.args.field) (sym c.is_name.ensures ∙ c.if-not-is_name.false) _ (if_some-at (IsPartsOf c.args.value.now) _ c.in-Some.parts c.in-Some.is c.in_ok-parts.ensures.parts) c.in-Some-item_meant.n (λ db reads. sym (c.in-Some-item_meant.ensures db reads)) c.item-view.result c.item-view.ensures (lack-told c.args.field c.item-view.result.fields c.field_meant-meant.result c.field_meant-meant.ensures c.is_lacking.result c.is_lacking.ensures ∙ c.if-is_lacking.false) c.item_place.result c.item_place.ensures (λ db reads. doubt-told c.args.field c.item-view.result.fields c.field_meant-meant.result c.field_meant-meant.ensures (is_unclear (which_seen c.args.key) (holders c.args.key.name.now db)) c.is_either_unclear.result (c.is_either_unclear.ensures db reads) ∙ c.if-is_either_unclear.false) _ (c.as_slice.ensures ∙ c.in_ok-pieces.ensures.pieces ∙ ap (λ (p : Piece). p ∷ []) (c.in_ok-piece.ensures.piece ∙ ap (λ o. set_at c.item_place.result c.args.field.name.now c.args.value.now (rows_end c.item-view.result) o) c.field_meant-meant.ensures.field)) (c.are_too_long.ensures.0 c.if-are_too_long.true)

pub is_text_too_long-requires-clause-place : goal.is_text_too_long-requires-clause-place
is_text_too_long-requires-clause-place g c db reads = let within = meant-within (which_seen c.args.key) db c.in-Some-item_meant.n (sym (c.in-Some-item_meant.ensures db reads)) in omega (arith, within)

pub is_text_too_long-requires-clause-value : goal.is_text_too_long-requires-clause-value
is_text_too_long-requires-clause-value g c = if_some-at (IsPartsOf c.args.value.now) _ c.in-Some.parts c.in-Some.is c.in_ok-parts.ensures.parts

pub returns-then-is_text_too_long-clause-refused : goal.returns-then-is_text_too_long-clause-refused
returns-then-is_text_too_long-clause-refused g c = set-one-text c.args.db.now c.args.value.now (which_seen c.args.key) (which_seen c.args.field) (sym c.is_name.ensures ∙ c.if-not-is_name.false) _ (if_some-at (IsPartsOf c.args.value.now) _ c.in-Some.parts c.in-Some.is c.in_ok-parts.ensures.parts) c.in-Some-item_meant.n (λ db reads. sym (c.in-Some-item_meant.ensures db reads)) c.item-view.result c.item-view.ensures (lack-told c.args.field c.item-view.result.fields c.field_meant-meant.result c.field_meant-meant.ensures c.is_lacking.result c.is_lacking.ensures ∙ c.if-is_lacking.false) c.item_place.result c.item_place.ensures (λ db reads. doubt-told c.args.field c.item-view.result.fields c.field_meant-meant.result c.field_meant-meant.ensures (is_unclear (which_seen c.args.key) (holders c.args.key.name.now db)) c.is_either_unclear.result (c.is_either_unclear.ensures db reads) ∙ c.if-is_either_unclear.false) _ (c.as_slice.ensures ∙ c.in_ok-pieces.ensures.pieces ∙ ap (λ (p : Piece). p ∷ []) (c.in_ok-piece.ensures.piece ∙ ap (λ o. set_at c.item_place.result c.args.field.name.now c.args.value.now (rows_end c.item-view.result) o) c.field_meant-meant.ensures.field)) (not_over c.are_too_long.result _ _ c.are_too_long.ensures.1 c.if-are_too_long.false) c.opens.ensures c.is_text_too_long.result c.is_text_too_long.ensures c.if-is_text_too_long.true

pub returns-clause-pieces : goal.returns-clause-pieces
returns-clause-pieces g c = set-one-pieces c.args.db.now c.args.value.now (which_seen c.args.key) (which_seen c.args.field) (sym c.is_name.ensures ∙ c.if-not-is_name.false) _ (if_some-at (IsPartsOf c.args.value.now) _ c.in-Some.parts c.in-Some.is c.in_ok-parts.ensures.parts) c.in-Some-item_meant.n (λ db reads. sym (c.in-Some-item_meant.ensures db reads)) c.item-view.result c.item-view.ensures (lack-told c.args.field c.item-view.result.fields c.field_meant-meant.result c.field_meant-meant.ensures c.is_lacking.result c.is_lacking.ensures ∙ c.if-is_lacking.false) c.item_place.result c.item_place.ensures (λ db reads. doubt-told c.args.field c.item-view.result.fields c.field_meant-meant.result c.field_meant-meant.ensures (is_unclear (which_seen c.args.key) (holders c.args.key.name.now db)) c.is_either_unclear.result (c.is_either_unclear.ensures db reads) ∙ c.if-is_either_unclear.false) c.in_ok-pieces.pieces (c.in_ok-pieces.ensures.pieces ∙ ap (λ (p : Piece). p ∷ []) (c.in_ok-piece.ensures.piece ∙ ap (λ o. set_at c.item_place.result c.args.field.name.now c.args.value.now (rows_end c.item-view.result) o) c.field_meant-meant.ensures.field))

pub returns-clause-allowed : goal.returns-clause-allowed
returns-clause-allowed g c = set-one-allowed c.args.db.now c.args.value.now (which_seen c.args.key) (which_seen c.args.field) (sym c.is_name.ensures ∙ c.if-not-is_name.false) _ (if_some-at (IsPartsOf c.args.value.now) _ c.in-Some.parts c.in-Some.is c.in_ok-parts.ensures.parts) c.in-Some-item_meant.n (λ db reads. sym (c.in-Some-item_meant.ensures db reads)) c.item-view.result c.item-view.ensures (lack-told c.args.field c.item-view.result.fields c.field_meant-meant.result c.field_meant-meant.ensures c.is_lacking.result c.is_lacking.ensures ∙ c.if-is_lacking.false) c.item_place.result c.item_place.ensures (λ db reads. doubt-told c.args.field c.item-view.result.fields c.field_meant-meant.result c.field_meant-meant.ensures (is_unclear (which_seen c.args.key) (holders c.args.key.name.now db)) c.is_either_unclear.result (c.is_either_unclear.ensures db reads) ∙ c.if-is_either_unclear.false) _ (c.as_slice.ensures ∙ c.in_ok-pieces.ensures.pieces ∙ ap (λ (p : Piece). p ∷ []) (c.in_ok-piece.ensures.piece ∙ ap (λ o. set_at c.item_place.result c.args.field.name.now c.args.value.now (rows_end c.item-view.result) o) c.field_meant-meant.ensures.field)) (not_over c.are_too_long.result _ _ c.are_too_long.ensures.1 c.if-are_too_long.false) c.opens.ensures c.is_text_too_long.result c.is_text_too_long.ensures c.if-is_text_too_long.false
