use Rattle.bib_scan.proofs.Words.{◌≡◌, length, ◌∙◌, ap, rules, Places}
use Rattle.bib_scan.proofs.LayoutLaws.{length-places}
use Rattle.bib_scan.proofs.layout.Layout.len.Goals as goal

pub returns-clause-items : goal.returns-clause-items
returns-clause-items c db is =
    let count : length c.self.inside.items.items ≡ length db.items = ap (λ (p : Places). length p.items) (c.self.view_is ∙ is) ∙ length-places db in
    search (rules, count)
