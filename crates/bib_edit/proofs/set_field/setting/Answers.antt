use Rattle.bib_edit.proofs.Words.{◌≡◌, ◌≤◌, ◌<◌, ◌+◌, count_by, option_map, sym, ◌∙◌, ap, subst, arith, ltb-true, ltb-false, file_limit, View, field_seen, is_field, rows_end}
use Rattle.bib_edit.proofs.SettingPieces.{item-within, replacing-within, replacing-set, putting-within, putting-set}
use Rattle.bib_edit.proofs.set_field.setting.Goals as goal

pub item-view-requires : goal.item-view-requires
item-view-requires g c db reads = item-within c.args.db.now c.args.n c.requires db reads

pub item_place-start-requires : goal.item_place-start-requires
item_place-start-requires g c db reads = let within = item-within c.args.db.now c.args.n c.requires db reads in omega (arith, within)

pub overflow_add-result : goal.overflow_add-result
overflow_add-result g c =
    let within : c.item_place-start.result + c.in-Some.old.value_at ≤ file_limit =
    replacing-within c.args.db.now c.args.n c.args.field.now c.args.value.now c.item_place-start.result c.item-view.result
    (λ db reads item at. (c.item_place-start.ensures db reads, c.item-view.ensures db reads item at)) (field_seen c.in-Some.old) (sym (ap (option_map field_seen) c.in-Some.is) ∙ c.sought_fields-sought.ensures.first) c.opens.ensures c.requires in
    omega (arith, within)

pub rows_end-requires-clause-place : goal.rows_end-requires-clause-place
rows_end-requires-clause-place g c =
    let within : c.item_place-start.result + rows_end c.item-view.result ≤ file_limit =
    putting-within c.args.db.now c.args.n c.args.field.now c.args.value.now c.item_place-start.result c.item-view.result
    (λ db reads item at. (c.item_place-start.ensures db reads, c.item-view.ensures db reads item at)) (sym (ap (option_map field_seen) c.in-None.is) ∙ c.sought_fields-sought.ensures.first) c.opens.ensures c.requires in
    omega (arith, within)

pub overflow_add-result-in-None : goal.overflow_add-result-in-None
overflow_add-result-in-None g c =
    let within : c.item_place-start.result + rows_end c.item-view.result ≤ file_limit =
    putting-within c.args.db.now c.args.n c.args.field.now c.args.value.now c.item_place-start.result c.item-view.result
    (λ db reads item at. (c.item_place-start.ensures db reads, c.item-view.ensures db reads item at)) (sym (ap (option_map field_seen) c.in-None.is) ∙ c.sought_fields-sought.ensures.first) c.opens.ensures c.requires in
    let end : c.rows_end.result ≡ rows_end c.item-view.result = c.rows_end.ensures in
    omega (arith, within, end)

pub returns-in_ok-copied-in-Some-2-clause-piece : goal.returns-in_ok-copied-in-Some-2-clause-piece
returns-in_ok-copied-in-Some-2-clause-piece g c =
    replacing-set c.args.db.now c.args.n c.args.field.now c.args.value.now c.item_place-start.result c.item-view.result
    (λ db reads item at. (c.item_place-start.ensures db reads, c.item-view.ensures db reads item at)) (field_seen c.in-Some.old) (sym (ap (option_map field_seen) c.in-Some.is) ∙ c.sought_fields-sought.ensures.first)
    c.in_ok-copied-in-Some.field-0 c.in_ok-copied-in-Some-2.field-0 c.in_ok-copied-in-Some.ensures c.in_ok-copied-in-Some-2.ensures

pub returns-in_ok-row_text-in-None-clause-piece : goal.returns-in_ok-row_text-in-None-clause-piece
returns-in_ok-row_text-in-None-clause-piece g c =
    putting-set c.args.db.now c.args.n c.args.field.now c.args.value.now c.item_place-start.result c.item-view.result
    (λ db reads item at. (c.item_place-start.ensures db reads, c.item-view.ensures db reads item at)) (sym (ap (option_map field_seen) c.in-None.is) ∙ c.sought_fields-sought.ensures.first)
    c.rows_end.result c.in_ok-copied-in-None.field-0 c.in_ok-row_text-in-None.field-0 c.rows_end.ensures c.in_ok-copied-in-None.ensures c.in_ok-row_text-in-None.ensures

pub returns-then-sought-clause-refused : goal.returns-then-sought-clause-refused
returns-then-sought-clause-refused g c e db reads item at =
    subst (λ (v : View). 1 < count_by (is_field c.args.field.now) v.fields) (c.item-view.ensures db reads item at)
    (ltb-true 1 (count_by (is_field c.args.field.now) c.item-view.result.fields) (sym c.sought_fields-sought.ensures.repeated ∙ c.if-sought.true))

pub returns-in_ok-copied-in-Some-2-clause-once : goal.returns-in_ok-copied-in-Some-2-clause-once
returns-in_ok-copied-in-Some-2-clause-once g c db reads item at =
    subst (λ (v : View). count_by (is_field c.args.field.now) v.fields ≤ 1) (c.item-view.ensures db reads item at)
    (ltb-false 1 (count_by (is_field c.args.field.now) c.item-view.result.fields) (sym c.sought_fields-sought.ensures.repeated ∙ c.if-sought.false))

pub returns-in_ok-row_text-in-None-clause-once : goal.returns-in_ok-row_text-in-None-clause-once
returns-in_ok-row_text-in-None-clause-once g c db reads item at =
    subst (λ (v : View). count_by (is_field c.args.field.now) v.fields ≤ 1) (c.item-view.ensures db reads item at)
    (ltb-false 1 (count_by (is_field c.args.field.now) c.item-view.result.fields) (sym c.sought_fields-sought.ensures.repeated ∙ c.if-sought.false))
