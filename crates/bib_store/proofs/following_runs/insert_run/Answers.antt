use Rattle.bib_store.proofs.Words.{◌≡◌, ◌∙◌, ℕ, List, length, refl, sym, subst, ap, arith, Text, Reading, Reads, file_of}
use Rattle.bib_items.specs.declared.list.Item.{Item}
use Rattle.bib_store.proofs.Exchanges.{put_of, are_put, taken-new}
use Rattle.bib_store.proofs.KeptRuns.{followed_same, come_measured}
use Rattle.bib_store.proofs.WalkedFiles.{with_len}
use Rattle.bib_store.proofs.following_runs.insert_run.Goals as goal

pub returns-in-Ok-clause-inserted : goal.returns-in-Ok-clause-inserted
returns-in-Ok-clause-inserted g c =
    (record {
      put = are_put c.args.change.now (g.L.ItemList.items c.args.items.now) _ _ _ _ c.requires.window c.as_slice-text.ensures c.in_ok-insert_all.ensures.ok c.count-old_count.ensures c.count.ensures;
      leads = c.in-Ok.ensures.lead;
      come = c.in-Ok.ensures.come;
      gone = c.in-Ok.ensures.gone;
    })

pub returns-in-Ok-clause-measured : goal.returns-in-Ok-clause-measured
returns-in-Ok-clause-measured g c = λ front m.
    let old = g.L.ItemList.items c.args.items.now in
    let now = g.L.ItemList.items c.insert_all.new.self in
    let are = are_put c.args.change.now old now _ _ _ c.requires.window c.as_slice-text.ensures c.in_ok-insert_all.ensures.ok c.count-old_count.ensures c.count.ensures in
    let own_front : (inner : Reading) → Reads c.args.change.now.text inner → c.front-front_len.result.now ≡ inner.front = λ inner reads. c.front-front_len.ensures inner (subst (λ (t : Text). Reads t inner) (sym c.as_slice-text.ensures) reads) in
    come_measured front old now c.args.tables.now _ c.requires.layout.0 c.args.change.now.window.from c.args.change.now.text m (are.put c.requires.layout.0 c.requires.layout.1) c.requires.layout.1
    (omega (arith, c.saturating_add-file_len.ensures, c.if-file_len-gt-FILE_LIMIT.false, ap (length {A = ℕ}) c.as_slice-text.ensures, ap (length {A = ℕ}) (own_front c.requires.layout.0 c.requires.layout.1)))
    (omega (arith, c.if-file_len-gt-FILE_LIMIT.false))

pub returns-in-Ok-clause-followed : goal.returns-in-Ok-clause-followed
returns-in-Ok-clause-followed g c = λ inner reads rest room f.
    let old = g.L.ItemList.items c.args.items.now in
    let now = g.L.ItemList.items c.insert_all.new.self in
    let are = are_put c.args.change.now old now _ _ _ c.requires.window c.as_slice-text.ensures c.in_ok-insert_all.ensures.ok c.count-old_count.ensures c.count.ensures in
    followed_same _ _ c.add_few.new.tables _ (c.in-Ok.ensures.followed old are inner reads rest room f) refl (λ items. with_len items c.add_few.new.tables c.saturating_add-file_len.result)

pub returns-in-Ok-clause-comes : goal.returns-in-Ok-clause-comes
returns-in-Ok-clause-comes g c =
    let old = g.L.ItemList.items c.args.items.now in
    let now = g.L.ItemList.items c.insert_all.new.self in
    c.in-Ok.ensures.comes old (are_put c.args.change.now old now _ _ _ c.requires.window c.as_slice-text.ensures c.in_ok-insert_all.ensures.ok c.count-old_count.ensures c.count.ensures)

pub returns-in-Err-clause-measured : goal.returns-in-Err-clause-measured
returns-in-Err-clause-measured g c = λ front m.
    let put = put_of _ _ c.args.change.now.text _ c.args.change.now.window _ _ c.requires.window c.as_slice-text.ensures c.in_ok-insert_all.ensures.ok c.count-old_count.ensures c.count.ensures c.requires.layout.0 c.requires.layout.1 in
    let short = m.short in
    record {
      len = c.add_few.ensures.len ∙ m.len ∙ ap (λ (l : List Item). length (file_of front l)) (sym (c.remove_range.ensures ∙ taken-new _ _ _ _ _ _ put));
      short = omega (arith, short, c.add_few.ensures.len);
    }

pub returns-in-Err-clause-back : goal.returns-in-Err-clause-back
returns-in-Err-clause-back g c =
    let old = g.L.ItemList.items c.args.items.now in
    let now = g.L.ItemList.items c.insert_all.new.self in
    c.in-Err.ensures.back old c.requires.layout.0 c.requires.layout.1
    (are_put c.args.change.now old now _ _ _ c.requires.window c.as_slice-text.ensures c.in_ok-insert_all.ensures.ok c.count-old_count.ensures c.count.ensures)

pub returns-in-Err-clause-err : goal.returns-in-Err-clause-err
returns-in-Err-clause-err g c =
    let put = put_of _ _ c.args.change.now.text _ c.args.change.now.window _ _ c.requires.window c.as_slice-text.ensures c.in_ok-insert_all.ensures.ok c.count-old_count.ensures c.count.ensures c.requires.layout.0 c.requires.layout.1 in
    c.remove_range.ensures ∙ taken-new _ _ _ _ _ _ put
