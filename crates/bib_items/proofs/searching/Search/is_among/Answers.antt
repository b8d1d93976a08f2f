use Rattle.bib_items.proofs.Words.{◌∙◌, sym, ap, subst, Contains, same_Some, sought_mark}
use Rattle.std.proofs.lemmas.Option.{none-some}
use Rattle.bib_items.proofs.PartMarks.{item-unmet}
use Rattle.bib_items.proofs.searching.Search.is_among.Goals as goal

pub returns-in-Some : goal.returns-in-Some
returns-in-Some c = λ none body has.
    item-unmet c.args.marks.now c.args.self.now
    (λ mark is at.
    let same = same_Some c.in-Some.mark mark (sym c.in-Some.is ∙ c.self.invariant.mark_is ∙ ap sought_mark c.self.view_is ∙ is) in
    c.has.ensures none (subst (Contains c.args.marks.now) (sym same) at))
    body has

pub returns-in-None : goal.returns-in-None
returns-in-None c = λ none body has.
    item-unmet c.args.marks.now c.args.self.now (λ mark is at. absurd (none-some mark (sym c.in-None.is ∙ c.self.invariant.mark_is ∙ ap sought_mark c.self.view_is ∙ is))) body has
