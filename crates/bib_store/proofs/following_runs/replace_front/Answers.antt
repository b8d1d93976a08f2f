use Rattle.bib_store.proofs.Words.{◌≡◌, ◌+◌, ◌-◌, ◌≤◌, ◌∙◌, ℕ, List, ◌++◌, length, take, refl, sym, ap, subst, append_assoc, length-append, arith, between, all_stored, AreFollowed}
use Rattle.bib_items.specs.declared.list.Item.{Item}
use Rattle.bib_store.proofs.InsertedRuns.{long_before, long_new, long_now, gone_put}
use Rattle.bib_store.proofs.Exchanges.{put_without}
use Rattle.bib_store.proofs.KeptRuns.{followed_same}
use Rattle.bib_store.proofs.WalkedFiles.{with_len}
use Rattle.bib_store.proofs.following_runs.replace_front.Goals as goal

pub returns-clause-items : goal.returns-clause-items
returns-clause-items g c = λ inner reads.
    let old = g.L.ItemList.items c.args.items.now in
    let put = g.L.ItemList.items c.insert_run.new.items in
    c.remove_run.ensures.items ∙ put_without c.args.change.now old put c.in_ok-inserted.inserted.count c.in_ok-inserted.ensures.inserted.put inner reads

pub returns-clause-followed : goal.returns-clause-followed
returns-clause-followed g c = λ inner reads rest room f.
    let old = g.L.ItemList.items c.args.items.now in
    let put = g.L.ItemList.items c.insert_run.new.items in
    let count : ℕ = c.in_ok-inserted.inserted.count in
    let lead : ℕ = c.in_ok-inserted.inserted.lead in
    let from : ℕ = c.args.change.now.window.from in
    let to : ℕ = c.args.change.now.window.to in
    let b = c.in_ok-inserted.ensures.inserted in
    let new : List Item = all_stored inner.items in
    let first : List Item = take from old ++ new in
    let size : length first ≡ from + count
    = length-append (take from old) new ∙ omega (arith, long_before c.args.change.now old put count lead b.put b.leads inner reads, long_new c.args.change.now old put count lead b.put b.leads inner reads) in
    let most : length rest ≤ length put - (to + count) = omega (arith, room, long_now c.args.change.now old put count lead b.put b.leads inner reads) in
    let parts : (take from old ++ (new ++ between (from + lead) to old)) ++ rest ≡ (first ++ between (from + count + lead) (to + count) put) ++ rest
    = ap (λ (l : List Item). l ++ rest) (sym (append_assoc (take from old) new (between (from + lead) to old)) ∙ ap (λ (l : List Item). first ++ l) (sym (gone_put c.args.change.now old put count lead b.put b.leads inner reads))) in
    followed_same (first ++ rest) (first ++ rest) c.remove_run.new.tables _
    (c.remove_run.ensures.followed first size rest most
    (subst (λ (l : List Item). AreFollowed l c.insert_run.new.tables) parts (c.in_ok-inserted.ensures.followed inner reads rest room f)))
    refl (λ items. with_len items c.remove_run.new.tables c.args.change.now.file_len)
