use Rattle.bib_store.proofs.Words.{◌≡◌, ◌+◌, ◌∙◌, ℕ, ◌∷◌, [], sym, ap, arith, same_text, Text}
use Rattle.bib_store.proofs.Followed.{one_between}
use Rattle.bib_store.proofs.exchanging.unchanged_first.Goals as goal

pub returns-then-eq : goal.returns-then-eq
returns-then-eq g c =
    let items = g.L.ItemList.items c.args.items.now in
    let from : ℕ = c.args.window.from in
    let some = c.if-count-eq0.false in
    let wide = c.if-window.false in
    let order = c.requires.ordered in
    let within = c.requires.within in
    let one : c.body.result.now ≡ c.body-2.result.now = same_text c.body.result.now c.body-2.result.now (sym c.if-eq.true ∙ c.eq.ensures) in
    record {
      come = omega (arith, some);
      go = omega (arith, wide, order);
      same =
          one_between items from c.body.result.now (omega (arith, wide, order, within)) c.body.ensures
          ∙ ap (λ (body : Text). body ∷ []) one
          ∙ sym (one_between items (from + c.args.count) c.body-2.result.now (omega (arith, wide, order, within)) c.body-2.ensures);
    }
