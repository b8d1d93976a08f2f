use Rattle.bib_order.proofs.Words.{◌∙◌, ℕ, List, [], get_or, ap, sym, get_or_read, read_at}
use Rattle.bib_order.proofs.sheets.id_of.Goals as goal

pub returns : goal.returns
returns c =
    let place = c.locate-p.ensures in
    ap (λ (l : List ℕ). get_or l c.locate-p.result.1 0) (c.ids.ensures ∙ get_or_read c.args.sheets.now c.locate-p.result.0 c.index-sheets-p.result place.page c.index-sheets-p.is [])
    ∙ sym (read_at c.args.sheets.now c.args.n c.locate-p.result.0 c.locate-p.result.1 0 place)
