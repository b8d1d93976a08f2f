use Rattle.bib_order.proofs.Words.{◌∙◌, ℕ, List, insert, ap, subst, joined, IsGap}
use Rattle.std.proofs.lemmas.Result.{on_ok_weaker}
use Rattle.bib_pages.proofs.Paging.{insert_at}
use Rattle.bib_order.proofs.sheets.put.Goals as goal

pub returns-clause-ok : goal.returns-clause-ok
returns-clause-ok c =
    let gap : IsGap c.args.sheets.now.items c.args.n c.gap-p.result.0 c.gap-p.result.1 = subst (λ (l : List (List ℕ)). IsGap l c.args.n c.gap-p.result.0 c.gap-p.result.1) c.deref.ensures.value c.gap-p.ensures in
    let room : IsGap c.room.new.sheets.items c.args.n c.in_ok-p.p c.in_ok-p.k = c.in_ok-p.ensures.room c.args.n gap in
    on_ok_weaker c.put_in.result
    (λ e. ap joined e ∙ insert_at c.room.new.sheets.items c.args.n c.in_ok-p.p c.in_ok-p.k c.args.id room ∙ ap (λ (l : List ℕ). insert l c.args.n c.args.id) c.in_ok-p.ensures.same)
    c.put_in.ensures.ok
