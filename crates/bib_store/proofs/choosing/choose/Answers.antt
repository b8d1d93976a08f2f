use Rattle.bib_store.proofs.Words.{rules, ◌≡◌, ◌∙◌, ℕ, true, false, List, [], ◌∷◌, ◌++◌, map, Bor, sym, ap, Text, folded, raw_text, RecordField, record_field, macros_seen, is_taken}
use Rattle.bib_store.proofs.ChosenFields.{other_field, taken_field, free_field}
use Rattle.bib_store.proofs.choosing.choose.Goals as goal

pub returns-then-not-is_one_of-clause-chosen : goal.returns-then-not-is_one_of-clause-chosen
returns-then-not-is_one_of-clause-chosen c v ok same all from =
    let told : c.is_one_of.result ≡ false = search rules in
    from ∙ sym (other_field (map (λ (n : Bor (List ℕ)). n.now) c.args.names.now) all (record { name = c.args.name.now; raw = raw_text (macros_seen c.args.macros.now) v }) (sym c.is_one_of.ensures ∙ told))

pub returns-then-is_taken-clause-chosen : goal.returns-then-is_taken-clause-chosen
returns-then-is_taken-clause-chosen c v ok same all from =
    let wanted : c.is_one_of.result ≡ true = search rules in
    let taken : c.is_taken.result ≡ true = search rules in
    from ∙ sym (taken_field (map (λ (n : Bor (List ℕ)). n.now) c.args.names.now) all (record { name = c.args.name.now; raw = raw_text (macros_seen c.args.macros.now) v }) (sym c.is_one_of.ensures ∙ wanted)
    (ap (λ (fields : List RecordField). is_taken fields c.args.name.now) (sym (c.as_slice.ensures.value ∙ from)) ∙ sym c.is_taken.ensures ∙ taken))

pub returns-clause-chosen : goal.returns-clause-chosen
returns-clause-chosen c v ok same all from =
    let wanted : c.is_one_of.result ≡ true = search rules in
    let free : c.is_taken.result ≡ false = search rules in
    let fields : List RecordField = c.args.fields.now.items in
    c.in_ok-push.ensures.items
    ∙ ap (λ (l : Text). fields ++ (l, c.in_ok-text.text) ∷ []) c.in_ok-lower.ensures
    ∙ ap (λ (t : Text). fields ++ (folded c.args.name.now, t) ∷ []) (c.in_ok-text.ensures.text v ok same)
    ∙ ap (λ (fs : List RecordField). fs ++ record_field (record { name = c.args.name.now; raw = raw_text (macros_seen c.args.macros.now) v }) ∷ []) from
    ∙ sym (free_field (map (λ (n : Bor (List ℕ)). n.now) c.args.names.now) all (record { name = c.args.name.now; raw = raw_text (macros_seen c.args.macros.now) v }) (sym c.is_one_of.ensures ∙ wanted)
    (ap (λ (fs : List RecordField). is_taken fs c.args.name.now) (sym (c.as_slice.ensures.value ∙ from)) ∙ sym c.is_taken.ensures ∙ free))
