use Rattle.bib_order.proofs.Words.{◌+◌, ◌∙◌, ℕ, List, get_or, insert, ap}
use Rattle.bib_pages.proofs.Paging.{parted_by}
use Rattle.bib_order.proofs.sheets.part.Goals as goal

pub returns-clause-ok : goal.returns-clause-ok
returns-clause-ok c =
    parted_by c.args.sheets.now.items c.insert.new.self.items c.args.p 256 c.index.result.now c.in_ok-second.second c.index_mut.result.now c.truncate.new.self
    c.requires.page
    (c.index.ensures ∙ ap (λ (l : List (List ℕ)). get_or l c.args.p c.index.result.now) c.reserve.ensures.items)
    c.in_ok-second.ensures
    (c.in_ok-insert.ensures.items ∙ ap (λ (l : List (List ℕ)). insert l (c.args.p + 1) c.in_ok-second.second) c.reserve.ensures.items)
    c.index_mut.ensures.value c.truncate.ensures
