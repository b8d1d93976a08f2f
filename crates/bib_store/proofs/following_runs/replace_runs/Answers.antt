use Rattle.bib_store.proofs.Words.{List, sym, subst, IsClean, AreFollowed}
use Rattle.bib_store.proofs.KeptRuns.{followed_of, kept_again}
use Rattle.bib_store.proofs.LedRuns.{all_led, all_back}
use Rattle.bib_items.specs.declared.list.Item.{Item}
use Rattle.bib_store.proofs.following_runs.replace_runs.Goals as goal

pub returns-in-Ok-clause-kept : goal.returns-in-Ok-clause-kept
returns-in-Ok-clause-kept g c =
    let old = g.L.ItemList.items c.args.items.now in
    kept_again c.args.front.now c.follow_runs.new.front old (g.L.ItemList.items c.follow_runs.new.items) c.args.tables.now c.follow_runs.new.tables c.requires.kept c.in-Ok.ensures.led.clean
    ((all_led _ _ _ _ _ _ _ _ c.count-count.ensures c.in-Ok.ensures.led).2 (followed_of c.args.front.now old c.args.tables.now c.requires.kept)) c.follow_runs.ensures.measured

pub returns-in-Ok-clause-fit : goal.returns-in-Ok-clause-fit
returns-in-Ok-clause-fit g c = (all_led _ _ _ _ _ _ _ _ c.count-count.ensures c.in-Ok.ensures.led).0

pub returns-in-Ok-clause-made : goal.returns-in-Ok-clause-made
returns-in-Ok-clause-made g c = (all_led _ _ _ _ _ _ _ _ c.count-count.ensures c.in-Ok.ensures.led).1

pub returns-in-Err-clause-kept : goal.returns-in-Err-clause-kept
returns-in-Err-clause-kept g c =
    let old = g.L.ItemList.items c.args.items.now in
    kept_again c.args.front.now c.follow_runs.new.front old (g.L.ItemList.items c.follow_runs.new.items) c.args.tables.now c.follow_runs.new.tables c.requires.kept
    (λ clean. subst IsClean (sym c.in-Err.ensures.err.0) clean)
    (subst (λ (l : List Item). AreFollowed l c.follow_runs.new.tables) (sym c.in-Err.ensures.err.1)
    (all_back c.count-count.result old c.args.tables.now c.follow_runs.new.tables c.count-count.ensures c.in-Err.ensures.back (followed_of c.args.front.now old c.args.tables.now c.requires.kept)))
    c.follow_runs.ensures.measured
