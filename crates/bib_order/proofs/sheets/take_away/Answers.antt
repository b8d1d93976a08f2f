use Rattle.bib_order.proofs.Words.{◌∙◌, ℕ, List, [], get_or, ap, sym, subst, get_or_read, IsPlace, read_at}
use Rattle.bib_order.proofs.sheets.take_away.Goals as goal

pub returns-clause-id : goal.returns-clause-id
returns-clause-id c =
    let place : IsPlace c.args.sheets.now.items c.args.n c.locate-p.result.0 c.locate-p.result.1 = subst (λ (l : List (List ℕ)). IsPlace l c.args.n c.locate-p.result.0 c.locate-p.result.1) c.deref.ensures.value c.locate-p.ensures in
    ap (λ (l : List ℕ). get_or l c.locate-p.result.1 0) (c.ids.ensures ∙ get_or_read c.args.sheets.now.items c.locate-p.result.0 c.index.result.now place.page c.index.ensures [])
    ∙ sym (read_at c.args.sheets.now.items c.args.n c.locate-p.result.0 c.locate-p.result.1 0 place)
