use Rattle.bib_store.proofs.Words.{◌<◌, ◌^◌, length, arith, change_put, joined}
use Rattle.bib_store.proofs.FollowedFiles.{followed_tables, followed_fits, followed_refused, followed_back}
use Rattle.bib_store.proofs.WalkedFiles.{with_len}
use Rattle.bib_store.proofs.exchanging.follow.Goals as goal

pub returns-in-Ok-clause-tables : goal.returns-in-Ok-clause-tables
returns-in-Ok-clause-tables g c = λ front_len text layout old put front db inner k reads has.
    let now = g.L.ItemList.items c.args.items.now in
    let few : length now < 2 ^ 64 = omega (arith, c.count.ensures, c.count.type_inv) in
    let tables = followed_tables (change_put c.args.put.now text layout) old now c.args.put.now.count c.args.lead put front db inner c.args.tables.now k reads few c.requires.lead c.requires.come c.requires.gone c.add_to_tables.new.tables c.remove_from_tables.new.tables
    c.add_to_tables.ensures.firm c.in-Ok.ensures.tables c.remove_from_tables.ensures.tables in (
      with_len (joined c.args.put.now.window db inner).items c.remove_from_tables.new.tables c.args.put.now.file_len tables,
      followed_fits (change_put c.args.put.now text layout) old now c.args.put.now.count c.args.lead put front db inner c.args.tables.now k reads few c.requires.lead c.requires.come c.requires.gone
          c.remove_from_tables.new.tables (λ firm. c.remove_from_tables.ensures.firm (c.add_to_tables.ensures.firm firm)) has.items tables c.in-Ok.ensures.short,
    )

pub returns-in-Err-clause-refused : goal.returns-in-Err-clause-refused
returns-in-Err-clause-refused g c = λ bad loose front_len text layout old put front db inner k reads has.
    let now = g.L.ItemList.items c.args.items.now in
    let few : length now < 2 ^ 64 = omega (arith, c.count.ensures, c.count.type_inv) in
    followed_refused (change_put c.args.put.now text layout) old now c.args.put.now.count c.args.lead put front db inner c.args.tables.now k reads few c.requires.lead c.requires.come c.requires.gone (λ firm. loose (c.add_to_tables.ensures.firm firm)) (c.in-Err.ensures.refused bad loose)

pub returns-in-Err-clause-err : goal.returns-in-Err-clause-err
returns-in-Err-clause-err g c = λ text layout old inner reads put.
    let now = g.L.ItemList.items c.args.items.now in
    let few : length now < 2 ^ 64 = omega (arith, c.count.ensures, c.count.type_inv) in
    record {
      len = c.add_to_tables.ensures.len;
      tables = λ db front k.
          followed_back (change_put c.args.put.now text layout) old now c.args.put.now.count c.args.lead put front db inner c.args.tables.now k reads few c.requires.lead c.requires.come c.requires.gone c.add_to_tables.new.tables c.in-Err.ensures.err;
    }

pub returns-in-Ok-clause-firm : goal.returns-in-Ok-clause-firm
returns-in-Ok-clause-firm g c firm = c.remove_from_tables.ensures.firm (c.add_to_tables.ensures.firm firm)
