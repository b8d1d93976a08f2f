use Rattle.bib_store.proofs.Words.{⊎_elim, ◌≡◌, ◌≤◌, ◌<◌, ◌+◌, ◌-◌, ◌∙◌, ℕ, List, Some, length, refl, suc, sym, ap, subst, arith, Text, item_at, bodies_between}
use Rattle.std.proofs.Common.{slice_get}
use Rattle.bib_items.specs.declared.list.Item.{Item}
use Rattle.bib_store.proofs.Followed.{PutSoFar, learn_more, learn_none, learn_over, learn_back, body_between}
use Rattle.bib_store.proofs.following.add_to_tables.Goals as goal

-- the body of the item that comes next, counted from the last
next_body : (items : List Item) (from to j : ℕ) (body : Text) (at : ℕ) → j < to - from → to ≤ length items → body ≡ (item_at items (to - 1 - j)).body → at ≡ to - from - (j + 1)
    → slice_get (bodies_between from to items) at ≡ Some body
next_body items from to j body at many within is place =
    let low : from ≤ to - 1 - j = omega (arith, many) in
    let high : to - 1 - j < to = omega (arith, many) in
    let same : to - 1 - j - from ≡ at = omega (arith, many, place) in
    ap (slice_get (bodies_between from to items)) (sym same) ∙ body_between items from to (to - 1 - j) body low high within is

left_at : (from to j : ℕ) → j < to - from → to - from - j ≡ suc (to - from - (j + 1))
left_at from to j many = omega (arith, many)

pub add_to_tables-init : goal.add_to_tables-init
add_to_tables-init g c =
    let all : c.args.to - c.args.from ≡ c.args.to - c.args.from - 0 = omega arith in
    let items = g.L.ItemList.items c.args.items.now in (
      subst (λ (m : ℕ). PutSoFar m c.args.at c.args.from c.args.to items c.args.tables.now c.args.tables.now) all
          (learn_none c.args.at c.args.from c.args.to items c.args.tables.now c.requires.ordered c.requires.within),
      refl,
    )

pub add_to_tables-preserved : goal.add_to_tables-preserved
add_to_tables-preserved g c =
    let items = g.L.ItemList.items c.args.items.now in
    let left : ℕ = c.args.to - c.args.from - (c.add_to_tables.j + 1) in (
      learn_more left c.args.at c.args.from c.args.to items c.args.tables.now c.add_to_tables.tables c.insert.new.self c.body.result.now c.of.result
          (next_body items c.args.from c.args.to c.add_to_tables.j c.body.result.now left c.add_to_tables-test.true c.requires.within c.body.ensures refl) c.of.ensures.item
          (subst (λ (m : ℕ). PutSoFar m c.args.at c.args.from c.args.to items c.args.tables.now c.add_to_tables.tables) (left_at c.args.from c.args.to c.add_to_tables.j c.add_to_tables-test.true) c.add_to_tables.invariant.0)
          c.in_default.ensures.step (c.insert.ensures.firm refl) c.insert.ensures.seen,
      c.insert.ensures.len ∙ c.add_to_tables.invariant.1,
    )

pub returns-in-Err-clause-refused : goal.returns-in-Err-clause-refused
returns-in-Err-clause-refused g c bad loose =
    let items = g.L.ItemList.items c.args.items.now in
    let left : ℕ = c.args.to - c.args.from - (c.add_to_tables.j + 1) in
    ⊎_elim
    (λ long. learn_over left c.args.at c.args.from c.args.to items c.args.tables.now c.add_to_tables.tables c.insert.new.self c.body.result.now c.of.result
    (next_body items c.args.from c.args.to c.add_to_tables.j c.body.result.now left c.add_to_tables-test.true c.requires.within c.body.ensures refl) c.of.ensures.item
    long.0 (subst (λ (m : ℕ). PutSoFar m c.args.at c.args.from c.args.to items c.args.tables.now c.add_to_tables.tables) (left_at c.args.from c.args.to c.add_to_tables.j c.add_to_tables-test.true) c.add_to_tables.invariant.0) (c.in-Err.ensures.too_long long.0 long.1))
    (λ is. absurd (loose (c.remove_from_tables.ensures.firm (c.insert.ensures.firm refl (c.in-Err.ensures.unsettled is)))))
    (c.of_splice.ensures.too_long bad)

pub returns-in-Err-clause-err : goal.returns-in-Err-clause-err
returns-in-Err-clause-err g c =
    let items = g.L.ItemList.items c.args.items.now in
    let left : ℕ = c.args.to - c.args.from - (c.add_to_tables.j + 1) in
    let many = c.add_to_tables-test.true in
    learn_back left (c.args.to - 1 - c.add_to_tables.j + 1) c.args.at c.args.from c.args.to items c.args.tables.now c.add_to_tables.tables c.insert.new.self c.remove_from_tables.new.tables
    (omega (arith, many)) (omega (arith, many)) c.requires.within
    (subst (λ (m : ℕ). PutSoFar m c.args.at c.args.from c.args.to items c.args.tables.now c.add_to_tables.tables) (left_at c.args.from c.args.to c.add_to_tables.j many) c.add_to_tables.invariant.0)
    c.in-Err.ensures.err (c.insert.ensures.firm refl) c.remove_from_tables.ensures.tables

pub returns-in-Err-clause-firm : goal.returns-in-Err-clause-firm
returns-in-Err-clause-firm g c firm = c.remove_from_tables.ensures.firm (c.insert.ensures.firm refl (c.add_to_tables.invariant.0.firm firm))

pub returns-clause-firm : goal.returns-clause-firm
returns-clause-firm g c = c.add_to_tables.invariant.0.firm

pub returns-clause-tables : goal.returns-clause-tables
returns-clause-tables g c = λ before new after count pass fits t.
    let items = g.L.ItemList.items c.args.items.now in
    let none : c.args.to - c.args.from - c.add_to_tables.j ≡ 0 = omega (arith, c.add_to_tables-test.false) in
    (subst (λ (m : ℕ). PutSoFar m c.args.at c.args.from c.args.to items c.args.tables.now c.add_to_tables.tables) none c.add_to_tables.invariant.0).tables before new after count pass fits t
