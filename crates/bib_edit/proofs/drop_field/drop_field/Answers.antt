use Rattle.bib_edit.proofs.Words.{◌≡◌, ◌+◌, ◌≤◌, [], ◌∷◌, length, count_by, option_map, sym, ◌∙◌, ap, subst, arith, ltb-true, ltb-false, IfOk-weaker, file_limit, Text, Piece, field_seen, IsAllowedEdit, ArePiecesOf, field_end, is_field, cut_piece, DropField}
use Rattle.bib_edit.proofs.NamedEntries.{named-within, held-item}
use Rattle.bib_edit.proofs.SettingPieces.{item-within}
use Rattle.bib_edit.proofs.DroppingFields.{refused-name, refused-key, refused-field, refused-holders, refused-twice, refused-merge, pieces-drop_field, start-within, key-small, field-end, field-begins, allowed-drop_field}
use Rattle.bib_edit.proofs.drop_field.drop_field.Goals as goal
use Rattle.bib_edit.proofs.drop_field.drop_field.Goals.{then-sought-via-then-sought, then-sought-via-else-sought+then-held-gt1}

pub returns-then-not-is_name-clause-refused : goal.returns-then-not-is_name-clause-refused
returns-then-not-is_name-clause-refused g c = refused-name c.args.db.now c.args.key.now c.args.field.now c.requires (sym c.is_name.ensures ∙ c.if-not-is_name.true)

pub returns-in-None-clause-refused : goal.returns-in-None-clause-refused
returns-in-None-clause-refused g c = refused-key c.args.db.now c.args.key.now c.args.field.now c.requires (sym c.is_name.ensures ∙ c.if-not-is_name.false) c.in-None.ensures.first

pub entry_item-n-requires : goal.entry_item-n-requires
entry_item-n-requires g c db reads = named-within c.args.key.now db c.in-Some.held.first (sym (c.in-Some.ensures.first db reads))

pub item-view-requires : goal.item-view-requires
item-view-requires g c db reads = item-within c.args.db.now c.entry_item-n.result (c.args.key.now, held-item c.args.key.now c.args.db.now c.in-Some.held.first c.entry_item-n.result c.in-Some.ensures.first c.entry_item-n.ensures) db reads

pub item_place-requires : goal.item_place-requires
item_place-requires g c db reads =
    let within = item-within c.args.db.now c.entry_item-n.result (c.args.key.now, held-item c.args.key.now c.args.db.now c.in-Some.held.first c.entry_item-n.result c.in-Some.ensures.first c.entry_item-n.ensures) db reads in omega (arith, within)

pub returns-in-None-first-clause-refused : goal.returns-in-None-first-clause-refused
returns-in-None-first-clause-refused g c =
    refused-field c.args.db.now c.args.key.now c.args.field.now c.requires (sym c.is_name.ensures ∙ c.if-not-is_name.false) c.in-Some.held.first c.entry_item-n.result c.in-Some.ensures.first c.entry_item-n.ensures 0 c.item-view.result
    (λ db reads item at. c.item-view.ensures db reads item at) (sym (ap (option_map field_seen) c.in-None-first.is) ∙ c.sought_fields-sought.ensures.first)

pub returns-then-sought-clause-refused : goal.returns-then-sought-clause-refused
returns-then-sought-clause-refused g c = elim c.then-sought.branch [
  | then-sought-via-then-sought w ↦ refused-twice c.args.db.now c.args.key.now c.args.field.now c.requires (sym c.is_name.ensures ∙ c.if-not-is_name.false) c.in-Some.held.first c.entry_item-n.result c.in-Some.ensures.first c.entry_item-n.ensures 0 c.item-view.result
      (λ db reads item at. c.item-view.ensures db reads item at) (field_seen c.in-Some-first.row) (sym (ap (option_map field_seen) c.in-Some-first.is) ∙ c.sought_fields-sought.ensures.first)
      (ltb-true 1 (count_by (is_field c.args.field.now) c.item-view.result.fields) (sym c.sought_fields-sought.ensures.repeated ∙ w.if-sought.true))
  | then-sought-via-else-sought+then-held-gt1 w ↦ refused-holders c.args.db.now c.args.key.now c.args.field.now c.requires (sym c.is_name.ensures ∙ c.if-not-is_name.false) c.in-Some.held.first c.entry_item-n.result c.in-Some.ensures.first c.entry_item-n.ensures 0 c.item-view.result
      (λ db reads item at. c.item-view.ensures db reads item at) (field_seen c.in-Some-first.row) (sym (ap (option_map field_seen) c.in-Some-first.is) ∙ c.sought_fields-sought.ensures.first)
      (λ db reads. let count = c.in-Some.ensures.count db reads in let many = w.if-held-gt1.true in omega (arith, count, many))
]

pub joins_key-requires-clause-end : goal.joins_key-requires-clause-end
joins_key-requires-clause-end g c =
    field-end c.args.db.now c.args.key.now c.args.field.now c.requires (sym c.is_name.ensures ∙ c.if-not-is_name.false) c.in-Some.held.first c.entry_item-n.result c.in-Some.ensures.first c.entry_item-n.ensures 0 c.item-view.result
    (λ db reads item at. c.item-view.ensures db reads item at) (field_seen c.in-Some-first.row) (sym (ap (option_map field_seen) c.in-Some-first.is) ∙ c.sought_fields-sought.ensures.first) c.opens.ensures.0 c.opens.ensures.1.reads

pub joins_key-requires-clause-key : goal.joins_key-requires-clause-key
joins_key-requires-clause-key g c =
    let small : c.item-view.result.key_at + length c.item-view.result.key ≤ file_limit =
    key-small c.args.db.now c.args.key.now c.args.field.now c.requires (sym c.is_name.ensures ∙ c.if-not-is_name.false) c.in-Some.held.first c.entry_item-n.result c.in-Some.ensures.first c.entry_item-n.ensures 0 c.item-view.result
    (λ db reads item at. c.item-view.ensures db reads item at) (field_seen c.in-Some-first.row) (sym (ap (option_map field_seen) c.in-Some-first.is) ∙ c.sought_fields-sought.ensures.first) c.opens.ensures in
    omega (arith, small)

pub returns-then-joins_key-clause-refused : goal.returns-then-joins_key-clause-refused
returns-then-joins_key-clause-refused g c =
    refused-merge c.args.db.now c.args.key.now c.args.field.now c.requires (sym c.is_name.ensures ∙ c.if-not-is_name.false) c.in-Some.held.first c.entry_item-n.result c.in-Some.ensures.first c.entry_item-n.ensures 0 c.item-view.result
    (λ db reads item at. c.item-view.ensures db reads item at) (field_seen c.in-Some-first.row) (sym (ap (option_map field_seen) c.in-Some-first.is) ∙ c.sought_fields-sought.ensures.first) (λ db reads. let count = c.in-Some.ensures.count db reads in let few = c.if-held-gt1.false in omega (arith, count, few))
    (ltb-false 1 (count_by (is_field c.args.field.now) c.item-view.result.fields) (sym c.sought_fields-sought.ensures.repeated ∙ c.if-sought.false)) (sym c.joins_key.ensures ∙ c.if-joins_key.true)

pub cut-requires-clause-end : goal.cut-requires-clause-end
cut-requires-clause-end g c =
    subst (λ (t : Text). field_end (field_seen c.in-Some-first.row) ≤ length t) (sym c.body.ensures)
    (field-end c.args.db.now c.args.key.now c.args.field.now c.requires (sym c.is_name.ensures ∙ c.if-not-is_name.false) c.in-Some.held.first c.entry_item-n.result c.in-Some.ensures.first c.entry_item-n.ensures 0 c.item-view.result
    (λ db reads item at. c.item-view.ensures db reads item at) (field_seen c.in-Some-first.row) (sym (ap (option_map field_seen) c.in-Some-first.is) ∙ c.sought_fields-sought.ensures.first) c.opens.ensures.0 c.opens.ensures.1.reads)

pub cut-requires-clause-begin : goal.cut-requires-clause-begin
cut-requires-clause-begin g c =
    field-begins c.args.db.now c.args.key.now c.args.field.now c.requires (sym c.is_name.ensures ∙ c.if-not-is_name.false) c.in-Some.held.first c.entry_item-n.result c.in-Some.ensures.first c.entry_item-n.ensures 0 c.item-view.result
    (λ db reads item at. c.item-view.ensures db reads item at) (field_seen c.in-Some-first.row) (sym (ap (option_map field_seen) c.in-Some-first.is) ∙ c.sought_fields-sought.ensures.first) c.opens.ensures.0 c.opens.ensures.1.reads

pub cut-requires-clause-place : goal.cut-requires-clause-place
cut-requires-clause-place g c =
    let small : c.item_place.result + c.in-Some-first.row.start ≤ file_limit =
    start-within c.args.db.now c.args.key.now c.args.field.now c.requires (sym c.is_name.ensures ∙ c.if-not-is_name.false) c.in-Some.held.first c.entry_item-n.result c.in-Some.ensures.first c.entry_item-n.ensures c.item_place.result c.item-view.result
    (λ db reads item at. c.item-view.ensures db reads item at) (field_seen c.in-Some-first.row) (sym (ap (option_map field_seen) c.in-Some-first.is) ∙ c.sought_fields-sought.ensures.first) c.opens.ensures c.item_place.ensures in
    omega (arith, small)

pub returns-clause-pieces : goal.returns-clause-pieces
returns-clause-pieces g c =
    let piece : c.in_ok-piece.piece ≡ cut_piece c.item_place.result c.item-view.result.body (field_seen c.in-Some-first.row) =
    c.in_ok-piece.ensures.piece ∙ ap (λ t. cut_piece c.item_place.result t (field_seen c.in-Some-first.row)) c.body.ensures in
    IfOk-weaker c.one_piece.result (λ pieces. pieces ≡ c.in_ok-piece.piece ∷ []) (ArePiecesOf c.args.db.now (DropField c.args.key.now c.args.field.now))
    (λ pieces is. subst (ArePiecesOf c.args.db.now (DropField c.args.key.now c.args.field.now)) (sym (is ∙ ap (λ (p : Piece). p ∷ []) piece))
    (pieces-drop_field c.args.db.now c.args.key.now c.args.field.now c.requires (sym c.is_name.ensures ∙ c.if-not-is_name.false) c.in-Some.held.first c.entry_item-n.result c.in-Some.ensures.first c.entry_item-n.ensures c.item_place.result c.item-view.result
    (λ db reads item at. c.item-view.ensures db reads item at) (field_seen c.in-Some-first.row) (sym (ap (option_map field_seen) c.in-Some-first.is) ∙ c.sought_fields-sought.ensures.first) c.item_place.ensures)) c.one_piece.ensures.pieces

pub returns-clause-allowed : goal.returns-clause-allowed
returns-clause-allowed g c =
    let allowed : IsAllowedEdit c.args.db.now (DropField c.args.key.now c.args.field.now) =
    allowed-drop_field c.args.db.now c.args.key.now c.args.field.now c.requires (sym c.is_name.ensures ∙ c.if-not-is_name.false) c.in-Some.held.first c.entry_item-n.result c.in-Some.ensures.first c.entry_item-n.ensures c.item_place.result c.item-view.result
    (λ db reads item at. c.item-view.ensures db reads item at) (field_seen c.in-Some-first.row) (sym (ap (option_map field_seen) c.in-Some-first.is) ∙ c.sought_fields-sought.ensures.first) c.opens.ensures (λ db reads. let count = c.in-Some.ensures.count db reads in let few = c.if-held-gt1.false in omega (arith, count, few))
    (ltb-false 1 (count_by (is_field c.args.field.now) c.item-view.result.fields) (sym c.sought_fields-sought.ensures.repeated ∙ c.if-sought.false)) (sym c.joins_key.ensures ∙ c.if-joins_key.false) in
    IfOk-weaker c.one_piece.result (λ pieces. pieces ≡ c.in_ok-piece.piece ∷ []) (λ _. IsAllowedEdit c.args.db.now (DropField c.args.key.now c.args.field.now)) (λ pieces is. allowed) c.one_piece.ensures.pieces
