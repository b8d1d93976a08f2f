use Rattle.bib_store.proofs.Words.{◌≡◌, ◌+◌, ◌-◌, ◌<◌, ◌≤◌, ◌^◌, ℕ, List, ◌++◌, length, drop, refl, ap, subst, append_assoc, arith, between, bodies_between, AreFollowed, file_of}
use Rattle.std.proofs.Common.{length-drop}
use Rattle.std.proofs.lemmas.List.{length-take-le}
use Rattle.bib_items.specs.declared.list.Item.{Item}
use Rattle.bib_store.proofs.KeptRuns.{followed_same, go_followed, go_len, len-ordered, len-within}
use Rattle.bib_store.proofs.WalkedFiles.{with_len}
use Rattle.bib_store.proofs.following_runs.remove_run.Goals as goal

pub overflow_sub-len : goal.overflow_sub-len
overflow_sub-len g c = omega (arith, c.start.ensures, c.start-2.ensures, len-ordered (g.L.ItemList.items c.args.items.now) c.args.from c.args.to (omega (arith, c.requires.ordered)))

pub overflow_sub-tables : goal.overflow_sub-tables
overflow_sub-tables g c =
    omega (arith, c.start.ensures, c.remove_from_tables.ensures.len, c.requires.measured.1.len, len-within c.requires.measured.0 (g.L.ItemList.items c.args.items.now) c.args.to)

pub returns-clause-measured : goal.returns-clause-measured
returns-clause-measured g c = λ front m.
    let old = g.L.ItemList.items c.args.items.now in
    let order : c.args.from ≤ c.args.to = omega (arith, c.requires.ordered) in
    let len = m.len in
    let short = m.short in
    record {
      len = omega (arith, c.start.ensures, c.start-2.ensures, c.remove_from_tables.ensures.len, len, go_len front old c.args.from c.args.to order, ap (λ (l : List Item). length (file_of front l)) c.remove_range.ensures);
      short = omega (arith, c.remove_from_tables.ensures.len, short);
    }

pub returns-clause-followed : goal.returns-clause-followed
returns-clause-followed g c = λ before long rest room f.
    let old = g.L.ItemList.items c.args.items.now in
    let from : ℕ = c.args.from + c.args.lead in
    let to : ℕ = c.args.to in
    let gone : List Item = between from to old in
    let few : length old < 2 ^ 64 = omega (arith, c.count.ensures, c.count.type_inv) in
    let wide : length gone ≡ to - from = length-take-le (to - from) (drop from old) (omega (arith, c.requires.ordered, c.requires.within, length-drop from old)) in
    followed_same (before ++ rest) (before ++ rest) c.remove_from_tables.new.tables _
    (go_followed before gone rest c.args.at c.args.tables.now c.remove_from_tables.new.tables (bodies_between from to old) (subst (λ (l : List Item). AreFollowed l c.args.tables.now) (append_assoc before gone rest) f) long refl c.requires.others
    (omega (arith, few, wide, room, c.requires.low, c.requires.ordered, c.requires.within)) c.remove_from_tables.ensures.firm c.remove_from_tables.ensures.tables)
    refl (λ items. with_len items c.remove_from_tables.new.tables (c.remove_from_tables.new.tables.file_len - (c.start.result - c.start-2.result)))
