use Rattle.bib_edit.proofs.Words.{◌≡◌, ◌||◌, true, false, is_some, sym, ◌∙◌, ap, list_any, folded, months, defines, first-any, copied-some}
use Rattle.bib_edit.proofs.TabledDefinitions.{tabled-first}
use Rattle.bib_edit.proofs.defining.is_given.Goals as goal

pub returns-then-is_some : goal.returns-then-is_some
returns-then-is_some g c db reads =
    let some : is_some (months (folded c.args.name.now)) ≡ true = ap is_some (sym c.month.ensures) ∙ copied-some c.month.result ∙ sym c.is_some.ensures ∙ c.if-is_some.true in
    sym (ap (λ b. b || list_any (λ item. defines c.args.name.now item.tree) db.items) some)

pub returns : goal.returns
returns g c db reads =
    let none : is_some (months (folded c.args.name.now)) ≡ false = ap is_some (sym c.month.ensures) ∙ copied-some c.month.result ∙ sym c.is_some.ensures ∙ c.if-is_some.false in
    c.is_some-2.ensures ∙ ap is_some (c.first_definition.ensures db reads ∙ tabled-first c.args.name.now db.items) ∙ first-any (defines c.args.name.now) db.items
    ∙ sym (ap (λ b. b || list_any (λ item. defines c.args.name.now item.tree) db.items) none)
