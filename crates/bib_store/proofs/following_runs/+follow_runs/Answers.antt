use Rattle.bib_store.proofs.Words.{◌+◌, ◌≤◌, ◌<◌, ◌∙◌, ℕ, length, refl, sym, ap, arith, rules, eqb-true, all_stored, without_range, without-put, err_always}
use Rattle.bib_items.specs.declared.list.Item.{Item}
use Rattle.bib_store.proofs.InsertedRuns.{long_new, long_now}
use Rattle.bib_store.proofs.FollowedFiles.{still_between}
use Rattle.bib_store.proofs.FrontRuns.{front_led, front_measured}
use Rattle.bib_store.proofs.LedRuns.{none_lead, longer_back, long_led, old_place, old_may, run_led, run_back}
use Rattle.bib_store.proofs.following_runs.+follow_runs.Goals as goal

pub returns-then-is_empty-clause-led : goal.returns-then-is_empty-clause-led
returns-then-is_empty-clause-led g t c = none_lead c.args.pieces.now c.args.front.now c.args.n (g.L.ItemList.items c.args.items.now) c.args.tables.now (eqb-true _ _ (sym c.is_empty.ensures ∙ c.if-is_empty.true))

pub returns-in_err-inserted-clause-back : goal.returns-in_err-inserted-clause-back
returns-in_err-inserted-clause-back g t c =
    err_always c.from_residual-in_err-inserted.result
    (longer_back (g.L.ItemList.items c.args.items.now) c.args.tables.now c.insert_run.new.tables c.in_ok-change.change.window.to c.args.n c.in_ok-change.ensures.to c.requires.within c.in_err-inserted.ensures.back)

pub follow_runs-requires : goal.follow_runs-requires
follow_runs-requires g t c =
    let r = c.in_ok-change.ensures in
    let b = c.in_ok-inserted.ensures.inserted in
    let long = long_now c.in_ok-change.change (g.L.ItemList.items c.args.items.now) (g.L.ItemList.items c.insert_run.new.items) c.in_ok-inserted.inserted.count c.in_ok-inserted.inserted.lead b.put b.leads r.change.layout.0 r.change.layout.1 in
    let fewer : length c.in-Some.starts.now < length c.args.starts.now = omega (arith, c.in-Some.ensures.cases.1) in
    let measured = c.insert_run.ensures.measured c.args.front.now c.requires.measured in
    let within : c.in_ok-change.change.window.from ≤ length (g.L.ItemList.items c.insert_run.new.items) = omega (arith, r.change.window.ordered, r.change.window.within, long) in
    search rules

pub overflow_sub-first_old-in-Ok : goal.overflow_sub-first_old-in-Ok
overflow_sub-first_old-in-Ok g t c =
    let r = c.in_ok-change.ensures in
    let long = long_led c.args.front.now c.follow_runs.new.front (g.L.ItemList.items c.args.items.now) (g.L.ItemList.items c.insert_run.new.items) (g.L.ItemList.items c.follow_runs.new.items)
    c.args.tables.now c.insert_run.new.tables c.follow_runs.new.tables c.args.n c.in_ok-inserted.inserted.count c.in_ok-inserted.inserted.lead c.split_at.result.0.now c.split_at.result.1.now c.in_ok-change.change r c.if-change.false r.change.layout.0 r.change.layout.1
    c.requires.within c.in_ok-inserted.ensures.inserted c.in-Ok.ensures.led in
    omega (arith, long, c.count-old_count.ensures, c.count-in-Ok.ensures)

pub overflow_add-first_old : goal.overflow_add-first_old
overflow_add-first_old g t c =
    let r = c.in_ok-change.ensures in
    let place = old_place c.args.front.now c.follow_runs.new.front (g.L.ItemList.items c.args.items.now) (g.L.ItemList.items c.insert_run.new.items) (g.L.ItemList.items c.follow_runs.new.items)
    c.args.tables.now c.insert_run.new.tables c.follow_runs.new.tables c.args.n c.in_ok-inserted.inserted.count c.in_ok-inserted.inserted.lead c.split_at.result.0.now c.split_at.result.1.now c.in_ok-change.change r c.if-change.false r.change.layout.0 r.change.layout.1
    c.requires.within c.in_ok-inserted.ensures.inserted c.in-Ok.ensures.led in
    let long = long_led c.args.front.now c.follow_runs.new.front (g.L.ItemList.items c.args.items.now) (g.L.ItemList.items c.insert_run.new.items) (g.L.ItemList.items c.follow_runs.new.items)
    c.args.tables.now c.insert_run.new.tables c.follow_runs.new.tables c.args.n c.in_ok-inserted.inserted.count c.in_ok-inserted.inserted.lead c.split_at.result.0.now c.split_at.result.1.now c.in_ok-change.change r c.if-change.false r.change.layout.0 r.change.layout.1
    c.requires.within c.in_ok-inserted.ensures.inserted c.in-Ok.ensures.led in
    omega (arith, place, long, r.change.window.within, c.count-old_count.ensures, c.count-in-Ok.ensures, c.count-in-Ok.type_inv)

pub remove_run-requires-clause-within : goal.remove_run-requires-clause-within
remove_run-requires-clause-within g t c =
    let r = c.in_ok-change.ensures in
    let place = old_place c.args.front.now c.follow_runs.new.front (g.L.ItemList.items c.args.items.now) (g.L.ItemList.items c.insert_run.new.items) (g.L.ItemList.items c.follow_runs.new.items)
    c.args.tables.now c.insert_run.new.tables c.follow_runs.new.tables c.args.n c.in_ok-inserted.inserted.count c.in_ok-inserted.inserted.lead c.split_at.result.0.now c.split_at.result.1.now c.in_ok-change.change r c.if-change.false r.change.layout.0 r.change.layout.1
    c.requires.within c.in_ok-inserted.ensures.inserted c.in-Ok.ensures.led in
    let long = long_led c.args.front.now c.follow_runs.new.front (g.L.ItemList.items c.args.items.now) (g.L.ItemList.items c.insert_run.new.items) (g.L.ItemList.items c.follow_runs.new.items)
    c.args.tables.now c.insert_run.new.tables c.follow_runs.new.tables c.args.n c.in_ok-inserted.inserted.count c.in_ok-inserted.inserted.lead c.split_at.result.0.now c.split_at.result.1.now c.in_ok-change.change r c.if-change.false r.change.layout.0 r.change.layout.1
    c.requires.within c.in_ok-inserted.ensures.inserted c.in-Ok.ensures.led in
    omega (arith, place, long, r.change.window.within, r.change.window.ordered, c.count-old_count.ensures, c.count-in-Ok.ensures)

pub remove_run-requires-clause-others : goal.remove_run-requires-clause-others
remove_run-requires-clause-others g t c =
    let r = c.in_ok-change.ensures in
    let place = old_place c.args.front.now c.follow_runs.new.front (g.L.ItemList.items c.args.items.now) (g.L.ItemList.items c.insert_run.new.items) (g.L.ItemList.items c.follow_runs.new.items)
    c.args.tables.now c.insert_run.new.tables c.follow_runs.new.tables c.args.n c.in_ok-inserted.inserted.count c.in_ok-inserted.inserted.lead c.split_at.result.0.now c.split_at.result.1.now c.in_ok-change.change r c.if-change.false r.change.layout.0 r.change.layout.1
    c.requires.within c.in_ok-inserted.ensures.inserted c.in-Ok.ensures.led in
    old_may c.args.front.now c.follow_runs.new.front (g.L.ItemList.items c.args.items.now) (g.L.ItemList.items c.insert_run.new.items) (g.L.ItemList.items c.follow_runs.new.items)
    c.args.tables.now c.insert_run.new.tables c.follow_runs.new.tables c.args.n c.in_ok-inserted.inserted.count c.in_ok-inserted.inserted.lead c.split_at.result.0.now c.split_at.result.1.now c.in_ok-change.change r c.if-change.false r.change.layout.0 r.change.layout.1
    c.requires.within c.in_ok-inserted.ensures.inserted c.in-Ok.ensures.led
    _ _ (omega (arith, place, c.count-old_count.ensures, c.count-in-Ok.ensures)) refl (λ firm. c.follow_runs.ensures.firm (c.insert_run.ensures.firm firm))

pub returns-in-Ok-clause-led : goal.returns-in-Ok-clause-led
returns-in-Ok-clause-led g t c =
    let r = c.in_ok-change.ensures in
    let place = old_place c.args.front.now c.follow_runs.new.front (g.L.ItemList.items c.args.items.now) (g.L.ItemList.items c.insert_run.new.items) (g.L.ItemList.items c.follow_runs.new.items)
    c.args.tables.now c.insert_run.new.tables c.follow_runs.new.tables c.args.n c.in_ok-inserted.inserted.count c.in_ok-inserted.inserted.lead c.split_at.result.0.now c.split_at.result.1.now c.in_ok-change.change r c.if-change.false r.change.layout.0 r.change.layout.1
    c.requires.within c.in_ok-inserted.ensures.inserted c.in-Ok.ensures.led in
    run_led c.args.front.now c.follow_runs.new.front (g.L.ItemList.items c.args.items.now) (g.L.ItemList.items c.insert_run.new.items) (g.L.ItemList.items c.follow_runs.new.items)
    c.args.tables.now c.insert_run.new.tables c.follow_runs.new.tables c.args.n c.in_ok-inserted.inserted.count c.in_ok-inserted.inserted.lead c.split_at.result.0.now c.split_at.result.1.now c.in_ok-change.change r c.if-change.false r.change.layout.0 r.change.layout.1
    c.requires.within c.in_ok-inserted.ensures.inserted c.in-Ok.ensures.led
    c.args.pieces.now (g.L.ItemList.items c.remove_run.new.items) c.remove_run.new.tables _ _ c.split_at.ensures.by_index.0
    (omega (arith, place, c.count-old_count.ensures, c.count-in-Ok.ensures)) refl c.remove_run.ensures.items c.in_ok-inserted.ensures.followed c.remove_run.ensures.followed

pub returns-in-Ok-clause-measured : goal.returns-in-Ok-clause-measured
returns-in-Ok-clause-measured g t c = c.remove_run.ensures.measured c.follow_runs.new.front c.follow_runs.ensures.measured

pub overflow_add-from-in-Err : goal.overflow_add-from-in-Err
overflow_add-from-in-Err g t c =
    let r = c.in_ok-change.ensures in
    let b = c.in_ok-inserted.ensures.inserted in
    let long = long_now c.in_ok-change.change (g.L.ItemList.items c.args.items.now) (g.L.ItemList.items c.insert_run.new.items) c.in_ok-inserted.inserted.count c.in_ok-inserted.inserted.lead b.put b.leads r.change.layout.0 r.change.layout.1 in
    omega (arith, long, r.change.window.ordered, r.change.window.within, c.count.ensures, c.count.type_inv)

pub remove_run-requires-in-Err-clause-within : goal.remove_run-requires-in-Err-clause-within
remove_run-requires-in-Err-clause-within g t c =
    let r = c.in_ok-change.ensures in
    let b = c.in_ok-inserted.ensures.inserted in
    let long = long_now c.in_ok-change.change (g.L.ItemList.items c.args.items.now) (g.L.ItemList.items c.insert_run.new.items) c.in_ok-inserted.inserted.count c.in_ok-inserted.inserted.lead b.put b.leads r.change.layout.0 r.change.layout.1 in
    omega (arith, long, r.change.window.ordered, r.change.window.within, ap (length {A = Item}) c.in-Err.ensures.err.1)

pub returns-clause-back : goal.returns-clause-back
returns-clause-back g t c =
    let r = c.in_ok-change.ensures in
    run_back c.args.front.now (g.L.ItemList.items c.args.items.now) (g.L.ItemList.items c.insert_run.new.items) (g.L.ItemList.items c.follow_runs.new.items)
    c.args.tables.now c.insert_run.new.tables c.follow_runs.new.tables c.remove_run-in-Err.new.tables c.args.n c.in_ok-inserted.inserted.count c.in_ok-inserted.inserted.lead c.split_at.result.1.now c.in_ok-change.change r r.change.layout.0 r.change.layout.1
    c.requires.within c.in_ok-inserted.ensures.inserted c.in-Err.ensures.err.1 c.in_ok-inserted.ensures.followed c.in-Err.ensures.back c.remove_run-in-Err.ensures.followed c.in_ok-inserted.ensures.comes

pub returns-clause-err : goal.returns-clause-err
returns-clause-err g t c =
    let r = c.in_ok-change.ensures in
    let b = c.in_ok-inserted.ensures.inserted in
    let inner = r.change.layout.0 in
    let from : ℕ = c.in_ok-change.change.window.from in
    let old = g.L.ItemList.items c.args.items.now in
    let low : from ≤ length old = omega (arith, r.change.window.ordered, r.change.window.within) in (
      c.in-Err.ensures.err.0,
      c.remove_run-in-Err.ensures.items
          ∙ ap (without_range from (from + c.in_ok-inserted.inserted.count)) (c.in-Err.ensures.err.1 ∙ b.put.put inner r.change.layout.1)
          ∙ without-put old (all_stored inner.items) from c.in_ok-inserted.inserted.count low (sym (long_new c.in_ok-change.change (g.L.ItemList.items c.args.items.now) (g.L.ItemList.items c.insert_run.new.items) c.in_ok-inserted.inserted.count c.in_ok-inserted.inserted.lead b.put b.leads r.change.layout.0 r.change.layout.1)),
    )

pub remove_run-requires-in-Err-clause-others : goal.remove_run-requires-in-Err-clause-others
remove_run-requires-in-Err-clause-others g t c =
    let from : ℕ = c.in_ok-change.change.window.from in
    still_between c.args.tables.now c.follow_runs.new.tables (from + c.in_ok-inserted.inserted.lead) (from + c.in_ok-inserted.inserted.count) (g.L.ItemList.items c.insert_run.new.items) (g.L.ItemList.items c.follow_runs.new.items)
    (λ firm. c.follow_runs.ensures.firm (c.insert_run.ensures.firm firm)) c.in-Err.ensures.err.1 c.in_ok-inserted.ensures.inserted.come

pub returns-clause-measured : goal.returns-clause-measured
returns-clause-measured g t c = c.remove_run-in-Err.ensures.measured c.follow_runs.new.front c.follow_runs.ensures.measured

-- ---- the first run, if it changes the front

pub returns-then-change-clause-led : goal.returns-then-change-clause-led
returns-then-change-clause-led g t c =
    let r = c.in_ok-change.ensures in
    let inner = r.change.layout.0 in
    let reads = r.change.layout.1 in
    let done = c.in_ok-replace_front.ensures in
    front_led c.args.front.now c.replace_front.new.front (g.L.ItemList.items c.args.items.now) (g.L.ItemList.items c.replace_front.new.items) c.args.tables.now c.replace_front.new.tables c.args.n
    c.split_at.result.1.now c.in_ok-change.change r c.if-change.true inner reads c.requires.within
    c.args.pieces.now c.split_at.result.0.now c.split_at.ensures.by_index.0 (eqb-true _ _ (sym c.is_empty-then-change.ensures ∙ c.if-not-is_empty.false))
    (done.front inner reads) (done.items inner reads) (done.followed inner reads)

pub returns-then-change-clause-measured : goal.returns-then-change-clause-measured
returns-then-change-clause-measured g t c =
    let r = c.in_ok-change.ensures in
    let inner = r.change.layout.0 in
    let reads = r.change.layout.1 in
    let done = c.in_ok-replace_front.ensures in
    front_measured c.args.front.now c.replace_front.new.front (g.L.ItemList.items c.args.items.now) (g.L.ItemList.items c.replace_front.new.items) c.args.tables.now c.replace_front.new.tables c.args.n
    c.split_at.result.1.now c.in_ok-change.change r c.if-change.true inner reads c.requires.within
    (done.front inner reads) (done.items inner reads) done.len

pub returns-in_err-replace_front-clause-back : goal.returns-in_err-replace_front-clause-back
returns-in_err-replace_front-clause-back g t c =
    err_always c.from_residual-in_err-replace_front.result
    (longer_back (g.L.ItemList.items c.args.items.now) c.args.tables.now c.replace_front.new.tables c.in_ok-change.change.window.to c.args.n c.in_ok-change.ensures.to c.requires.within c.in_err-replace_front.ensures.back)
