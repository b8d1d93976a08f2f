use Rattle.bib_store.proofs.Words.{◌≡◌, ◌+◌, ◌-◌, ◌∙◌, ℕ, List, ap, arith, between, subst, sym, AreNotesOf, without_range}
use Rattle.bib_scan.specs.Layout.{Places}
use Rattle.bib_items.specs.declared.list.Item.{Item}
use Rattle.bib_store.proofs.Exchanges.{put_of, are_put, without-old, taken-new}
use Rattle.bib_store.proofs.InsertedRuns.{come_put}
use Rattle.bib_store.proofs.OpenedFiles.{notes_of}
use Rattle.bib_store.proofs.exchanging.exchange_all.Goals as goal

pub renew-requires-clause-noted : goal.renew-requires-clause-noted
renew-requires-clause-noted g c =
    let inner = c.requires.layout.0 in
    let reads = c.requires.layout.1 in
    let put = are_put (record { window = c.args.change.window; file_len = c.args.change.file_len; text = c.args.change.text; layout = c.args.change.layout }) (g.L.ItemList.items c.args.items.now) _ _ _ _ c.requires.window c.into_vec.ensures c.in_ok-take_in.ensures.ok c.count-old_count.ensures c.count.ensures in
    let from : ℕ = c.args.change.window.from in
    let order = c.requires.window.ordered in
    let now : List Item = g.L.ItemList.items c.take_in.new.self in
    let there = come_put (record { window = c.args.change.window; file_len = c.args.change.file_len; text = c.args.change.text; layout = c.args.change.layout }) (g.L.ItemList.items c.args.items.now) now _ 0 put (record { come = omega arith; go = omega (arith, order) }) inner reads in
    let begin : from + 0 ≡ from = omega arith in
    subst (λ (n : ℕ). AreNotesOf c.into_notes.result (between n (from + (c.count.result - c.count-old_count.result)) now)) begin
    (subst (AreNotesOf c.into_notes.result) (sym there) (notes_of inner.items c.into_notes.result reads.items (c.into_notes.ensures ∙ ap (λ (p : Places). p.notes) c.requires.layout.2)))

pub returns-in-Ok-clause-items : goal.returns-in-Ok-clause-items
returns-in-Ok-clause-items g c = λ inner reads.
    let put = put_of _ _ c.args.change.text _ c.args.change.window _ _ c.requires.window c.into_vec.ensures c.in_ok-take_in.ensures.ok c.count-old_count.ensures c.count.ensures inner reads in
    c.remove_range.ensures ∙ ap (without_range _ _) c.renew.ensures.items ∙ without-old _ _ _ _ _ _ put

pub returns-in-Ok-clause-tables : goal.returns-in-Ok-clause-tables
returns-in-Ok-clause-tables g c = λ front db inner k reads has.
    c.in-Ok.ensures.tables c.args.change.text c.args.change.layout (g.L.ItemList.items c.args.items.now)
    (are_put (record { window = c.args.change.window; file_len = c.args.change.file_len; text = c.args.change.text; layout = c.args.change.layout }) (g.L.ItemList.items c.args.items.now) _ _ _ _ c.requires.window c.into_vec.ensures c.in_ok-take_in.ensures.ok c.count-old_count.ensures c.count.ensures) front db inner k reads has

pub returns-clause-refused : goal.returns-clause-refused
returns-clause-refused g c = λ bad front db inner k reads has.
    c.in-Err.ensures.refused bad c.args.change.text c.args.change.layout (g.L.ItemList.items c.args.items.now)
    (are_put (record { window = c.args.change.window; file_len = c.args.change.file_len; text = c.args.change.text; layout = c.args.change.layout }) (g.L.ItemList.items c.args.items.now) _ _ _ _ c.requires.window c.into_vec.ensures c.in_ok-take_in.ensures.ok c.count-old_count.ensures c.count.ensures) front db inner k reads has

pub returns-clause-err : goal.returns-clause-err
returns-clause-err g c =
    let put = put_of _ _ c.args.change.text _ c.args.change.window _ _ c.requires.window c.into_vec.ensures c.in_ok-take_in.ensures.ok c.count-old_count.ensures c.count.ensures c.requires.layout.0 c.requires.layout.1 in (
      c.remove_range-in-Err.ensures ∙ ap (without_range _ _) c.renew.ensures.items ∙ taken-new _ _ _ _ _ _ put,
      c.in-Err.ensures.err c.args.change.text c.args.change.layout (g.L.ItemList.items c.args.items.now) c.requires.layout.0 c.requires.layout.1
          (are_put (record { window = c.args.change.window; file_len = c.args.change.file_len; text = c.args.change.text; layout = c.args.change.layout }) (g.L.ItemList.items c.args.items.now) _ _ _ _ c.requires.window c.into_vec.ensures c.in_ok-take_in.ensures.ok c.count-old_count.ensures c.count.ensures),
    )
