use Rattle.bib_store.proofs.Words.{◌-◌, ◌<◌, ◌≤◌, [], length, inl, inr, ⊎_elim, arith}
use Rattle.bib_store.proofs.WalkedFiles.{walk_start, walk_more, walk_over, walk_all, with_len, kept_inside, fault_cases}
use Rattle.bib_store.proofs.tables.Tables.of.Goals as goal

pub walk-init : goal.walk-init
walk-init g c = walk_start c.args.front_len _ c.prepare.new.self (c.prepare.ensures.tables [] c.new-tables.ensures)

pub texts-requires : goal.texts-requires
texts-requires g c =
    kept_inside c.args.from c.args.to (length (g.L.ItemList.items c.args.items.now)) c.walk.n c.kept_number-k.result c.requires.order c.requires.within c.kept_number-k.ensures
    (omega (arith, c.walk-test.true, c.count.ensures))

pub walk-preserved : goal.walk-preserved
walk-preserved g c =
    let all = g.L.ItemList.items c.args.items.now in
    let low : c.walk.n < length all - (c.args.to - c.args.from) = omega (arith, c.walk-test.true, c.count.ensures) in
    walk_more c.args.front_len c.args.from c.args.to all c.walk.n c.kept_number-k.result c.walk.start c.requires.order c.requires.within c.kept_number-k.ensures low
    c.texts.result.0.now c.texts.result.1.now c.walk.tables c.add.new.self c.item_end-start.result c.texts.ensures.body c.texts.ensures.trail c.item_end-start.ensures
    c.in_default.ensures.step c.walk.invariant

pub returns-in-Err-clause-fault : goal.returns-in-Err-clause-fault
returns-in-Err-clause-fault g c =
    let all = g.L.ItemList.items c.args.items.now in
    let low : c.walk.n < length all - (c.args.to - c.args.from) = omega (arith, c.walk-test.true, c.count.ensures) in
    ⊎_elim
    (λ memory. inl (c.in_file.ensures.memory memory))
    (λ long.
    let told = c.in_file.ensures.too_long long.0 long.1 in
    inr (
      told.0,
      walk_over c.args.front_len c.args.from c.args.to all c.walk.n c.kept_number-k.result c.walk.start c.requires.order c.requires.within c.kept_number-k.ensures low
          c.texts.result.0.now c.walk.tables long.0 c.in_file.result.place c.texts.ensures.body told.1 (c.in-Err.ensures.too_long long.0 long.1) c.walk.invariant,
    ))
    (fault_cases c.in-Err.fault)

pub returns-clause-tables : goal.returns-clause-tables
returns-clause-tables g c db kept =
    let all = g.L.ItemList.items c.args.items.now in
    let end : length all - (c.args.to - c.args.from) ≤ c.walk.n = omega (arith, c.walk-test.false, c.count.ensures) in
    with_len db.items c.walk.tables c.args.file_len (walk_all c.args.front_len c.args.from c.args.to all c.walk.n c.walk.start c.walk.tables c.requires.order c.requires.within end c.walk.invariant db kept).0

pub returns-clause-texts : goal.returns-clause-texts
returns-clause-texts g c db kept =
    let all = g.L.ItemList.items c.args.items.now in
    let end : length all - (c.args.to - c.args.from) ≤ c.walk.n = omega (arith, c.walk-test.false, c.count.ensures) in
    (walk_all c.args.front_len c.args.from c.args.to all c.walk.n c.walk.start c.walk.tables c.requires.order c.requires.within end c.walk.invariant db kept).1
