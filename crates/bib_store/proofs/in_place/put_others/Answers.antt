use Rattle.bib_store.proofs.Words.{◌≡◌, ◌+◌, ◌-◌, ◌∙◌, ℕ, suc, List, Some, length, same_Some, slice_get-map, sym, ap, subst, refl, arith, Text, name_limit, tree_bytes, IsItem, bodies_between, with_bounds}
use Rattle.std.proofs.Common.{slice_get}
use Rattle.std.specs.Option.{option_map}
use Rattle.bib_spec.specs.Reading.{Item}
use Rattle.bib_store.specs.TablesOf.{TakesPlace}
use Rattle.bib_store.proofs.Followed.{body_between, counted_items, length-between}
use Rattle.bib_store.proofs.KeptItems.{item_in}
use Rattle.bib_store.proofs.OpenedFiles.{noted_between}
use Rattle.bib_store.proofs.PlacedItems.{PlacedSoFar, element_at, placed_none, placed_more, placed_all}
use Rattle.bib_store.proofs.in_place.put_others.Goals as goal

pub each-init : goal.each-init
each-init g c =
    let from : ℕ = c.args.put_in.now.window.from in
    let count : ℕ = c.args.put_in.now.count in (
      (λ new are good. placed_none (from + 2) (bodies_between (from + count + 1) (from + count + count) (g.L.ItemList.items c.args.items.now)) new c.args.tables.now),
      refl,
    )

pub put-requires : goal.put-requires
put-requires g c =
    let from : ℕ = c.args.put_in.now.window.from in
    let count : ℕ = c.args.put_in.now.count in
    let low = c.each-test.true in
    noted_between c.args.put_in.now.notes (g.L.ItemList.items c.args.items.now) from count (1 + c.each.k) (from + 1 + c.each.k) c.note_at-note.result c.body-body.result.now c.of-new.result
    c.requires.noted (omega (arith, low)) (omega arith) (omega (arith, c.requires.within)) (c.note_at-note.ensures ∙ ap (λ ns. slice_get ns (1 + c.each.k)) c.as_slice.ensures) c.body-body.ensures c.of-new.ensures.slices.0

pub each-preserved : goal.each-preserved
each-preserved g c =
    let from : ℕ = c.args.put_in.now.window.from in
    let count : ℕ = c.args.put_in.now.count in
    let items = g.L.ItemList.items c.args.items.now in
    let k : ℕ = c.each.k in
    let bodies = bodies_between (from + count + 1) (from + count + count) items in
    let new_bodies = bodies_between (from + 1) (from + count) items in
    let low = c.each-test.true in
    let within = c.requires.within in
    let some = c.requires.some in
    let next : suc k ≡ k + 1 = omega arith in
    let back : from + 1 + count + k - (from + count + 1) ≡ k = omega arith in
    let new_back : from + 1 + k - (from + 1) ≡ k = omega arith in
    let at : from + 1 + 1 + k ≡ from + 2 + k = omega arith in
    let old_at : slice_get bodies k ≡ Some c.body-old_body.result.now
    = ap (slice_get bodies) (sym back) ∙ body_between items (from + count + 1) (from + count + count) (from + 1 + count + k) c.body-old_body.result.now (omega arith) (omega (arith, low)) within c.body-old_body.ensures in
    let body_at : slice_get new_bodies k ≡ Some c.body-body.result.now
    = ap (slice_get new_bodies) (sym new_back) ∙ body_between items (from + 1) (from + count) (from + 1 + k) c.body-body.result.now (omega arith) (omega (arith, low)) (omega (arith, within)) c.body-body.ensures in (
      (λ new are good.
          let long : length new ≡ count - 1 = counted_items new_bodies new are ∙ length-between items (from + 1) (from + count) (omega (arith, some)) (omega (arith, within)) ∙ omega arith in
          let y = element_at new k (omega (arith, low, long)) in
          let is_good : IsItem name_limit y.0 = item_in (IsItem name_limit) new k y.0 good y.1 in
          let bytes : tree_bytes y.0.tree ≡ c.body-body.result.now
          = same_Some (tree_bytes y.0.tree) c.body-body.result.now
          (sym (slice_get-map (λ (i : Item). tree_bytes i.tree) new k ∙ ap (option_map (λ (i : Item). tree_bytes i.tree)) y.1) ∙ ap (λ (l : List Text). slice_get l k) are.same ∙ body_at) in
          subst (λ (n : ℕ). PlacedSoFar n (from + 2) bodies new c.args.tables.now c.put.new.tables) next
          (placed_more k (from + 2) bodies c.body-old_body.result.now new y.0 c.of-old.result c.of-new.result c.args.tables.now c.each.tables c.put.new.tables old_at y.1 c.of-old.ensures.item
          (c.of-new.ensures.item y.0.tree is_good.tree bytes) good
          (subst (λ (n : ℕ). TakesPlace n c.of-old.result c.of-new.result c.each.tables c.put.new.tables) at (c.if-not-put.ensures.placed refl)) (c.each.invariant.0 new are good))),
      c.if-not-put.ensures.rest ∙ ap (with_bounds c.put.new.tables.bounds) c.each.invariant.1,
    )

pub returns-clause-placed : goal.returns-clause-placed
returns-clause-placed g c = λ _ new are good.
    let from : ℕ = c.args.put_in.now.window.from in
    let count : ℕ = c.args.put_in.now.count in
    let items = g.L.ItemList.items c.args.items.now in
    let ends = c.each-test.false in
    let within = c.requires.within in
    let some = c.requires.some in
    let new_bodies = bodies_between (from + 1) (from + count) items in
    let long : length new ≡ count - 1 = counted_items new_bodies new are ∙ length-between items (from + 1) (from + count) (omega (arith, some)) (omega (arith, within)) ∙ omega arith in
    placed_all c.each.k (from + 2) (bodies_between (from + count + 1) (from + count + count) items) new c.args.tables.now c.each.tables
    (omega (arith, ends, length-between items (from + count + 1) (from + count + count) (omega (arith, some)) within))
    (omega (arith, ends, long)) (c.each.invariant.0 new are good)

pub returns-then-not-put-clause-rest : goal.returns-then-not-put-clause-rest
returns-then-not-put-clause-rest g c = c.put.ensures.rest ∙ ap (with_bounds c.put.new.tables.bounds) c.each.invariant.1
