use Rattle.bib_edit.proofs.Words.{◌+◌, ℕ, List, [], ◌∷◌, Some, sym, ◌∙◌, ap, ap₂, arith, Text, Field, field_seen, start_of, value_bytes}
use Rattle.bib_edit.proofs.DefinedNames.{name-there, name-some, value-within, value-at}
use Rattle.bib_edit.proofs.defining.value_of.Goals as goal

pub returns-in_err-field : goal.returns-in_err-field
returns-in_err-field g c db reads d at =
    absurd (name-some c.args.db.now c.args.n c.item.result c.fields.result c.opens.ensures c.requires c.item.ensures c.fields.ensures.fields c.in_err-field.ensures.steps.0)

pub overflow_add-result : goal.overflow_add-result
overflow_add-result g c =
    let within = value-within c.args.db.now c.args.n c.item.result c.fields.result c.opens.ensures c.requires c.item.ensures c.fields.ensures.fields
    (field_seen c.in_ok-field.field) c.next.new.self c.item_place.result c.in_ok-field.ensures.steps c.item_place.ensures in
    omega (arith, within)

first_of : List Field → ℕ × Text
first_of [] = (0, [])
first_of (f ∷ fs) = (f.value_at, f.value)

pub returns : goal.returns
unfolding first_of
returns g c db reads d at =
    let there = name-there c.args.db.now c.args.n c.item.result c.fields.result c.opens.ensures c.requires c.item.ensures c.fields.ensures.fields db reads d at.0 at.1 in
    let it = ap first_of (sym c.in_ok-field.ensures.steps ∙ there) in
    ap₂ (λ (k : ℕ) (q : ℕ × Text). Some (k + q.0, q.1)) (c.item_place.ensures db reads) it
    ∙ ap (λ (k : ℕ). Some (start_of db c.args.n + k, value_bytes d.assignment.value)) (value-at d)
