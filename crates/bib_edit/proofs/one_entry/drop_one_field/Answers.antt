use Rattle.bib_edit.proofs.Words.{◌≡◌, ◌+◌, ◌≤◌, List, [], ◌∷◌, length, sym, ◌∙◌, ap, subst, arith, file_limit, Text, Piece, holders, field_seen, field_end, cut_piece}
use Rattle.edit_spec.specs.Edits.{DropsField, is_unclear}
use Rattle.bib_edit.specs.Numbers.{which_seen}
use Rattle.bib_edit.specs.OneOfSeveral.{ArePiecesFor, IsAllowedFor, change}
use Rattle.bib_edit.proofs.Results.{if_ok-as, on_ok-of}
use Rattle.bib_edit.proofs.MeantItems.{meant-within}
use Rattle.bib_edit.proofs.MeantFields.{doubt-told, row-told, none-told}
use Rattle.bib_edit.proofs.DroppedOne.{drop-one-misnamed, drop-one-missing, drop-one-lacking, drop-one-unclear, drop-one-ends, drop-one-begins, drop-one-within, drop-one-key, drop-one-pieces, drop-one-merges, drop-one-allowed}
use Rattle.bib_edit.proofs.one_entry.drop_one_field.Goals as goal

pub returns-then-not-is_name-clause-refused : goal.returns-then-not-is_name-clause-refused
returns-then-not-is_name-clause-refused g c = drop-one-misnamed c.args.db.now (which_seen c.args.key) (which_seen c.args.field) (sym c.is_name.ensures ∙ c.if-not-is_name.true)

pub returns-in_default-clause-refused : goal.returns-in_default-clause-refused
returns-in_default-clause-refused g c = drop-one-missing c.args.db.now (which_seen c.args.key) (which_seen c.args.field) (sym c.is_name.ensures ∙ c.if-not-is_name.false) (λ db reads. sym (c.in_default.ensures db reads))

pub item-view-requires : goal.item-view-requires
item-view-requires g c db reads = meant-within (which_seen c.args.key) db c.in-Some.n (sym (c.in-Some.ensures db reads))

pub returns-in_default-field-clause-refused : goal.returns-in_default-field-clause-refused
returns-in_default-field-clause-refused g c = drop-one-lacking c.args.db.now (which_seen c.args.key) (which_seen c.args.field) (sym c.is_name.ensures ∙ c.if-not-is_name.false) c.in-Some.n (λ db reads. sym (c.in-Some.ensures db reads)) c.item-view.result c.item-view.ensures (none-told c.args.field c.item-view.result.fields c.field_meant-meant.result c.field_meant-meant.ensures c.in_default-field.is)

pub returns-then-is_either_unclear-clause-refused : goal.returns-then-is_either_unclear-clause-refused
returns-then-is_either_unclear-clause-refused g c = drop-one-unclear c.args.db.now (which_seen c.args.key) (which_seen c.args.field) (sym c.is_name.ensures ∙ c.if-not-is_name.false) c.in-Some.n (λ db reads. sym (c.in-Some.ensures db reads)) c.item-view.result c.item-view.ensures (field_seen c.in-Some-field.row) (row-told c.args.field c.item-view.result.fields c.field_meant-meant.result c.field_meant-meant.ensures c.in-Some-field.row c.in-Some-field.is) (λ db reads. doubt-told c.args.field c.item-view.result.fields c.field_meant-meant.result c.field_meant-meant.ensures (is_unclear (which_seen c.args.key) (holders c.args.key.name.now db)) c.is_either_unclear.result (c.is_either_unclear.ensures db reads) ∙ c.if-is_either_unclear.true)

pub joins_key-requires-clause-end : goal.joins_key-requires-clause-end
joins_key-requires-clause-end g c = drop-one-ends c.args.db.now (which_seen c.args.key) (which_seen c.args.field) (sym c.is_name.ensures ∙ c.if-not-is_name.false) c.in-Some.n (λ db reads. sym (c.in-Some.ensures db reads)) c.item-view.result c.item-view.ensures (field_seen c.in-Some-field.row) (row-told c.args.field c.item-view.result.fields c.field_meant-meant.result c.field_meant-meant.ensures c.in-Some-field.row c.in-Some-field.is) c.opens.ensures.0 c.opens.ensures.1.reads

pub joins_key-requires-clause-key : goal.joins_key-requires-clause-key
joins_key-requires-clause-key g c = let small = drop-one-key c.args.db.now (which_seen c.args.key) (which_seen c.args.field) (sym c.is_name.ensures ∙ c.if-not-is_name.false) c.in-Some.n (λ db reads. sym (c.in-Some.ensures db reads)) c.item-view.result c.item-view.ensures (field_seen c.in-Some-field.row) (row-told c.args.field c.item-view.result.fields c.field_meant-meant.result c.field_meant-meant.ensures c.in-Some-field.row c.in-Some-field.is) c.opens.ensures in omega (arith, small)

pub returns-then-joins_key-clause-refused : goal.returns-then-joins_key-clause-refused
returns-then-joins_key-clause-refused g c = drop-one-merges c.args.db.now (which_seen c.args.key) (which_seen c.args.field) (sym c.is_name.ensures ∙ c.if-not-is_name.false) c.in-Some.n (λ db reads. sym (c.in-Some.ensures db reads)) c.item-view.result c.item-view.ensures (field_seen c.in-Some-field.row) (row-told c.args.field c.item-view.result.fields c.field_meant-meant.result c.field_meant-meant.ensures c.in-Some-field.row c.in-Some-field.is) (λ db reads. doubt-told c.args.field c.item-view.result.fields c.field_meant-meant.result c.field_meant-meant.ensures (is_unclear (which_seen c.args.key) (holders c.args.key.name.now db)) c.is_either_unclear.result (c.is_either_unclear.ensures db reads) ∙ c.if-is_either_unclear.false) (sym c.joins_key.ensures ∙ c.if-joins_key.true)

pub item_place-requires : goal.item_place-requires
item_place-requires g c db reads = let within = meant-within (which_seen c.args.key) db c.in-Some.n (sym (c.in-Some.ensures db reads)) in omega (arith, within)

pub cut-requires-clause-end : goal.cut-requires-clause-end
cut-requires-clause-end g c = subst (λ (t : Text). field_end (field_seen c.in-Some-field.row) ≤ length t) (sym c.body.ensures) (drop-one-ends c.args.db.now (which_seen c.args.key) (which_seen c.args.field) (sym c.is_name.ensures ∙ c.if-not-is_name.false) c.in-Some.n (λ db reads. sym (c.in-Some.ensures db reads)) c.item-view.result c.item-view.ensures (field_seen c.in-Some-field.row) (row-told c.args.field c.item-view.result.fields c.field_meant-meant.result c.field_meant-meant.ensures c.in-Some-field.row c.in-Some-field.is) c.opens.ensures.0 c.opens.ensures.1.reads)

pub cut-requires-clause-begin : goal.cut-requires-clause-begin
cut-requires-clause-begin g c = drop-one-begins c.args.db.now (which_seen c.args.key) (which_seen c.args.field) (sym c.is_name.ensures ∙ c.if-not-is_name.false) c.in-Some.n (λ db reads. sym (c.in-Some.ensures db reads)) c.item-view.result c.item-view.ensures (field_seen c.in-Some-field.row) (row-told c.args.field c.item-view.result.fields c.field_meant-meant.result c.field_meant-meant.ensures c.in-Some-field.row c.in-Some-field.is) c.opens.ensures.0 c.opens.ensures.1.reads

pub cut-requires-clause-place : goal.cut-requires-clause-place
cut-requires-clause-place g c =
    let small : c.item_place.result + c.in-Some-field.row.start ≤ file_limit = drop-one-within c.args.db.now (which_seen c.args.key) (which_seen c.args.field) (sym c.is_name.ensures ∙ c.if-not-is_name.false) c.in-Some.n (λ db reads. sym (c.in-Some.ensures db reads)) c.item-view.result c.item-view.ensures (field_seen c.in-Some-field.row) (row-told c.args.field c.item-view.result.fields c.field_meant-meant.result c.field_meant-meant.ensures c.in-Some-field.row c.in-Some-field.is) c.item_place.result c.opens.ensures c.item_place.ensures in
    omega (arith, small)

pub returns-clause-pieces : goal.returns-clause-pieces
returns-clause-pieces g c =
    let piece : c.in_ok-piece.piece ≡ cut_piece c.item_place.result c.item-view.result.body (field_seen c.in-Some-field.row) =
    c.in_ok-piece.ensures.piece ∙ ap (λ t. cut_piece c.item_place.result t (field_seen c.in-Some-field.row)) c.body.ensures in
    if_ok-as (λ (ps : List Piece). ps ≡ c.in_ok-piece.piece ∷ []) (ArePiecesFor (change c.args.key (DropsField (which_seen c.args.field))) c.args.db.now)
    (λ ps is db reads. is ∙ ap (λ (p : Piece). p ∷ []) piece ∙ drop-one-pieces c.args.db.now (which_seen c.args.key) (which_seen c.args.field) (sym c.is_name.ensures ∙ c.if-not-is_name.false) c.in-Some.n (λ db reads. sym (c.in-Some.ensures db reads)) c.item-view.result c.item-view.ensures (field_seen c.in-Some-field.row) (row-told c.args.field c.item-view.result.fields c.field_meant-meant.result c.field_meant-meant.ensures c.in-Some-field.row c.in-Some-field.is) c.item_place.result c.item_place.ensures db reads)
    c.one_piece.result c.one_piece.ensures.pieces

pub returns-clause-allowed : goal.returns-clause-allowed
returns-clause-allowed g c =
    on_ok-of (IsAllowedFor (change c.args.key (DropsField (which_seen c.args.field))) c.args.db.now) c.one_piece.result
    (drop-one-allowed c.args.db.now (which_seen c.args.key) (which_seen c.args.field) (sym c.is_name.ensures ∙ c.if-not-is_name.false) c.in-Some.n (λ db reads. sym (c.in-Some.ensures db reads)) c.item-view.result c.item-view.ensures (field_seen c.in-Some-field.row) (row-told c.args.field c.item-view.result.fields c.field_meant-meant.result c.field_meant-meant.ensures c.in-Some-field.row c.in-Some-field.is) (λ db reads. doubt-told c.args.field c.item-view.result.fields c.field_meant-meant.result c.field_meant-meant.ensures (is_unclear (which_seen c.args.key) (holders c.args.key.name.now db)) c.is_either_unclear.result (c.is_either_unclear.ensures db reads) ∙ c.if-is_either_unclear.false) c.opens.ensures (sym c.joins_key.ensures ∙ c.if-joins_key.false))
