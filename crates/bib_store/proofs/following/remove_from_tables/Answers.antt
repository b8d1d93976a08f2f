use Rattle.bib_store.proofs.Words.{◌≡◌, ◌+◌, ◌-◌, ◌∙◌, ℕ, suc, subst, arith}
use Rattle.bib_store.proofs.Followed.{TakenSoFar, forget_more, forget_all, body_between}
use Rattle.bib_store.proofs.following.remove_from_tables.Goals as goal

pub remove_from_tables-preserved : goal.remove_from_tables-preserved
remove_from_tables-preserved g c =
    let low = c.remove_from_tables.auto.k in
    let next : suc (c.remove_from_tables.k - c.args.from) ≡ c.remove_from_tables.k + 1 - c.args.from = omega (arith, low) in (
      subst (λ (n : ℕ). TakenSoFar n c.args.at c.args.from c.args.to (g.L.ItemList.items c.args.items.now) c.args.tables.now c.remove.new.self) next
          (forget_more (c.remove_from_tables.k - c.args.from) c.args.at c.args.from c.args.to (g.L.ItemList.items c.args.items.now) c.args.tables.now c.remove_from_tables.tables c.remove.new.self c.body.result.now c.of.result
          (body_between (g.L.ItemList.items c.args.items.now) c.args.from c.args.to c.remove_from_tables.k c.body.result.now low c.remove_from_tables-test.true c.requires.within c.body.ensures)
          c.of.ensures.item c.remove_from_tables.invariant.0 c.remove.ensures.step c.remove.ensures.firm),
      c.remove.ensures.len ∙ c.remove_from_tables.invariant.1,
    )

pub returns-clause-tables : goal.returns-clause-tables
returns-clause-tables g c =
    forget_all (c.remove_from_tables.k - c.args.from) c.args.at c.args.from c.args.to (g.L.ItemList.items c.args.items.now) c.args.tables.now c.remove_from_tables.tables c.requires.ordered c.requires.within
    (omega (arith, c.remove_from_tables-test.false)) c.remove_from_tables.invariant.0

pub returns-clause-firm : goal.returns-clause-firm
returns-clause-firm g c = c.remove_from_tables.invariant.0.firm
