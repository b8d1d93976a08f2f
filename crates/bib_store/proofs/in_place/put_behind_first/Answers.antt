use Rattle.bib_store.proofs.Words.{◌≡◌, ◌<◌, ◌+◌, ◌-◌, ◌^◌, ◌∙◌, ℕ, length, drop, refl, ap, subst, arith, IsFirm, bodies_between, TakePlaces, change_put, with_bounds, joined}
use Rattle.bib_store.proofs.BehindFirst.{first_back, first_refused, new_others_items, new_others_good, all_gone, all_fit}
use Rattle.bib_store.proofs.WalkedFiles.{with_len}
use Rattle.bib_store.proofs.in_place.put_behind_first.Goals as goal

pub returns-in-Err-clause-same : goal.returns-in-Err-clause-same
returns-in-Err-clause-same g c = λ _ text layout old inner reads put.
    let now = g.L.ItemList.items c.args.items.now in
    let from : ℕ = c.args.put_in.now.window.from in
    let to : ℕ = c.args.put_in.now.window.to in
    let count : ℕ = c.args.put_in.now.count in
    let few : length now < 2 ^ 64 = omega (arith, c.count.ensures, c.count.type_inv) in
    let some : 0 < count = omega (arith, c.if-touched-eq0.false, c.if-touched-count.false) in
    let one_for_one : to - from ≡ count = omega (arith, c.if-touched-count.false) in
    let firm : IsFirm c.args.tables.now = c.if-not-is_firm.ensures.firm refl in
    record {
      len = c.add_to_tables.ensures.len;
      tables = λ db front k. first_refused (change_put c.args.put_in.now text layout) old now count put some one_for_one few inner reads front db c.args.tables.now k firm c.add_to_tables.new.tables c.in-Err.ensures.err;
    }

pub returns-then-is_firm-clause-tables : goal.returns-then-is_firm-clause-tables
returns-then-is_firm-clause-tables g c = λ _ front_len text layout old put front db inner k reads has.
    let now = g.L.ItemList.items c.args.items.now in
    let from : ℕ = c.args.put_in.now.window.from in
    let to : ℕ = c.args.put_in.now.window.to in
    let count : ℕ = c.args.put_in.now.count in
    let few : length now < 2 ^ 64 = omega (arith, c.count.ensures, c.count.type_inv) in
    let some : 0 < count = omega (arith, c.if-touched-eq0.false, c.if-touched-count.false) in
    let one_for_one : to - from ≡ count = omega (arith, c.if-touched-count.false) in
    let firm : IsFirm c.args.tables.now = c.if-not-is_firm.ensures.firm refl in
    let still : IsFirm c.put_others.new.tables = c.if-is_firm.ensures.firm refl in
    let end : from + count + count ≡ to + count = omega (arith, one_for_one, c.requires.ordered) in
    let others = new_others_items (change_put c.args.put_in.now text layout) old now count put some one_for_one few inner reads front db c.args.tables.now k firm in
    let good = new_others_good (change_put c.args.put_in.now text layout) old now count put some one_for_one few inner reads front db c.args.tables.now k firm in
    let placed = subst (λ (n : ℕ). TakePlaces (from + 2) (bodies_between (from + count + 1) n now) (drop 1 inner.items) c.add_to_tables.new.tables c.put_others.new.tables) end (c.if-put_others.ensures.placed refl (drop 1 inner.items) others good) in
    let tables = all_gone (change_put c.args.put_in.now text layout) old now count put some one_for_one few inner reads front db c.args.tables.now k firm
    c.add_to_tables.new.tables c.put_others.new.tables c.remove_from_tables.new.tables c.in-Ok.ensures.tables placed still c.remove_from_tables.ensures.tables in (
      with_len (joined c.args.put_in.now.window db inner).items c.remove_from_tables.new.tables c.args.put_in.now.file_len tables,
      all_fit (change_put c.args.put_in.now text layout) old now count put some one_for_one few inner reads front db c.args.tables.now k firm
          c.add_to_tables.new.tables c.put_others.new.tables c.remove_from_tables.new.tables c.in-Ok.ensures.tables placed still c.remove_from_tables.ensures.tables (c.remove_from_tables.ensures.firm still) has.items,
    )

pub returns-clause-same : goal.returns-clause-same
returns-clause-same g c = λ _ text layout old inner reads put.
    let now = g.L.ItemList.items c.args.items.now in
    let from : ℕ = c.args.put_in.now.window.from in
    let to : ℕ = c.args.put_in.now.window.to in
    let count : ℕ = c.args.put_in.now.count in
    let few : length now < 2 ^ 64 = omega (arith, c.count.ensures, c.count.type_inv) in
    let some : 0 < count = omega (arith, c.if-touched-eq0.false, c.if-touched-count.false) in
    let one_for_one : to - from ≡ count = omega (arith, c.if-touched-count.false) in
    let firm : IsFirm c.args.tables.now = c.if-not-is_firm.ensures.firm refl in
    let again = ap (with_bounds c.add_to_tables.new.tables.bounds) c.put_others.ensures.rest in
    record {
      len = c.remove_from_tables-2.ensures.len ∙ ap (λ t. t.file_len) again ∙ c.add_to_tables.ensures.len;
      tables = λ db front k.
          first_back (change_put c.args.put_in.now text layout) old now count put some one_for_one few inner reads front db c.args.tables.now k firm
          c.add_to_tables.new.tables _ c.remove_from_tables-2.new.tables again c.in-Ok.ensures.tables c.add_to_tables.ensures.firm c.remove_from_tables-2.ensures.tables;
    }
