use Rattle.bib_store.proofs.Words.{◌≡◌, ◌+◌, ◌-◌, ◌≤◌, ◌<◌, ◌∙◌, ℕ, suc, Some, length, sym, ap, subst, refl, arith, Text, name_limit, Reads, IsItem, bodies_between, with_bounds}
use Rattle.std.proofs.Common.{slice_get}
use Rattle.bib_store.proofs.Followed.{body_between, length-between}
use Rattle.bib_store.proofs.PlacedFiles.{counted_in}
use Rattle.bib_store.proofs.KeptItems.{item_in}
use Rattle.bib_store.proofs.PlacedItems.{PlacedSoFar, element_at, placed_none, placed_more, placed_all}
use Rattle.bib_store.proofs.in_place.put_each.Goals as goal

pub each-init : goal.each-init
each-init g c =
    let w = c.args.change.now.window in (
      (λ inner reads. placed_none w.from (bodies_between w.from w.to (g.L.ItemList.items c.args.items.now)) inner.items c.args.tables.now),
      refl,
    )

pub each-preserved : goal.each-preserved
each-preserved g c =
    let from : ℕ = c.args.change.now.window.from in
    let to : ℕ = c.args.change.now.window.to in
    let items = g.L.ItemList.items c.args.items.now in
    let k : ℕ = c.each.k in
    let bodies = bodies_between from to items in
    let low = c.each-test.true in
    let counted = c.len-k-end.ensures.count in
    let above : from ≤ from + k = omega arith in
    let below : from + k < to = omega (arith, low, counted, c.requires.each) in
    let next : suc k ≡ k + 1 = omega arith in
    let back : from + k - from ≡ k = omega arith in
    let old_at : slice_get bodies k ≡ Some c.body.result.now
    = ap (slice_get bodies) (sym back) ∙ body_between items from to (from + k) c.body.result.now above below c.requires.window.within c.body.ensures in (
      (λ inner reads.
          let within : k < length inner.items = omega (arith, low, counted, counted_in c.args.change.now c.requires.layout inner reads) in
          let y = element_at inner.items k within in
          let read = subst (λ (t : Text). Reads t inner) (sym c.as_slice-text.ensures) reads in
          let good : IsItem name_limit y.0 = item_in (IsItem name_limit) inner.items k y.0 reads.items y.1 in
          subst (λ (n : ℕ). PlacedSoFar n from bodies inner.items c.args.tables.now c.put.new.tables) next
          (placed_more k from bodies c.body.result.now inner.items y.0 c.of-old.result c.of-new.result c.args.tables.now c.each.tables c.put.new.tables old_at y.1 c.of-old.ensures.item
          (c.of-new.ensures.item y.0.tree good.tree (sym (c.body-in-each.ensures inner y.0 read y.1))) reads.items
          (c.if-not-put.ensures.placed refl) (c.each.invariant.0 inner reads))),
      c.if-not-put.ensures.rest ∙ ap (with_bounds c.put.new.tables.bounds) c.each.invariant.1,
    )

pub returns-clause-placed : goal.returns-clause-placed
returns-clause-placed g c = λ _ inner reads.
    let from : ℕ = c.args.change.now.window.from in
    let to : ℕ = c.args.change.now.window.to in
    let items = g.L.ItemList.items c.args.items.now in
    let ends = c.each-test.false in
    let counted = c.len-k-end.ensures.count in
    placed_all c.each.k from (bodies_between from to items) inner.items c.args.tables.now c.each.tables
    (omega (arith, ends, counted, c.requires.each, length-between items from to c.requires.window.ordered c.requires.window.within))
    (omega (arith, ends, counted, counted_in c.args.change.now c.requires.layout inner reads)) (c.each.invariant.0 inner reads)

pub returns-then-not-put-clause-rest : goal.returns-then-not-put-clause-rest
returns-then-not-put-clause-rest g c = c.put.ensures.rest ∙ ap (with_bounds c.put.new.tables.bounds) c.each.invariant.1
