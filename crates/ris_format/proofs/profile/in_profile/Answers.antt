use Rattle.ris_format.proofs.Words.{◌≡◌, ◌∙◌, true, ◌&&◌, rules, sym, ap, ap₂, list_all, and_from, and_left, and_right, is_new_key, is_entry_type, kind_of_entry, field_names, are_in_order, is_plain_field}
use Rattle.std.proofs.Common.{map}
use Rattle.ris_format.proofs.profile.in_profile.Goals as goal

pub returns-then-not-are_in_order-clause-test : goal.returns-then-not-are_in_order-clause-test
returns-then-not-are_in_order-clause-test c =
    let entry = c.args.entry.now in
    let kind_name : c.as_slice-kind_name.result.now ≡ entry.kind_name = search rules in
    let fields : c.as_slice-3.result.now ≡ entry.fields = search rules in
    let names : map (λ n. n.now) c.as_slice-2.result.now ≡ field_names (kind_of_entry entry.kind_name) =
    ap (map (λ n. n.now)) c.as_slice-2.ensures.value ∙ c.in_ok-names.ensures ∙ ap field_names (c.of_entry.ensures ∙ ap kind_of_entry kind_name) in
    let order : are_in_order (field_names (kind_of_entry entry.kind_name)) entry.fields ≡ c.are_in_order.result = ap₂ are_in_order (sym names) (sym fields) ∙ sym c.are_in_order.ensures in
    sym (and_left (is_entry_type entry.kind_name && is_new_key entry.key && are_in_order (field_names (kind_of_entry entry.kind_name)) entry.fields) (list_all is_plain_field entry.fields)
    (and_right (is_entry_type entry.kind_name && is_new_key entry.key) _ (order ∙ c.if-not-are_in_order.true)))

pub returns-clause-test : goal.returns-clause-test
returns-clause-test c =
    let entry = c.args.entry.now in
    let kind_name : c.as_slice-kind_name.result.now ≡ entry.kind_name = search rules in
    let key : c.as_slice.result.now ≡ entry.key = search rules in
    let fields : c.as_slice-3.result.now ≡ entry.fields = search rules in
    let all : c.as_slice-4.result.now ≡ entry.fields = search rules in
    let names : map (λ n. n.now) c.as_slice-2.result.now ≡ field_names (kind_of_entry entry.kind_name) =
    ap (map (λ n. n.now)) c.as_slice-2.ensures.value ∙ c.in_ok-names.ensures ∙ ap field_names (c.of_entry.ensures ∙ ap kind_of_entry kind_name) in
    let typed : is_entry_type entry.kind_name ≡ true = ap is_entry_type (sym kind_name) ∙ sym c.is_entry_type.ensures ∙ c.if-not-is_entry_type.false in
    let keyed : is_new_key entry.key ≡ true = ap is_new_key (sym key) ∙ sym c.is_key.ensures ∙ c.if-not-is_key.false in
    let order : are_in_order (field_names (kind_of_entry entry.kind_name)) entry.fields ≡ true = ap₂ are_in_order (sym names) (sym fields) ∙ sym c.are_in_order.ensures ∙ c.if-not-are_in_order.false in
    let head : (is_entry_type entry.kind_name && is_new_key entry.key && are_in_order (field_names (kind_of_entry entry.kind_name)) entry.fields) ≡ true = and_from _ _ (and_from _ _ typed keyed) order in
    c.in_ok-are_plain_fields.ensures ∙ ap (list_all is_plain_field) all ∙ sym (ap (λ b. b && list_all is_plain_field entry.fields) head)
