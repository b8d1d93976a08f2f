use Rattle.bib_store.proofs.Words.{◌<◌, ◌^◌, length, refl, arith, err_always}
use Rattle.bib_store.proofs.InsertedRuns.{inserted_followed, inserted_back, trails_back, has_lead}
use Rattle.bib_store.proofs.following_runs.add_few.Goals as goal

pub returns-clause-lead : goal.returns-clause-lead
returns-clause-lead g c = has_lead c.args.change.now.window c.args.count c.unchanged_first-lead.result (g.L.ItemList.items c.args.items.now) c.unchanged_first-lead.ensures

pub returns-clause-followed : goal.returns-clause-followed
returns-clause-followed g c = λ old put inner reads rest room f.
    let now = g.L.ItemList.items c.args.items.now in
    let few : length now < 2 ^ 64 = omega (arith, c.count.ensures, c.count.type_inv) in
    let lead = c.unchanged_first-lead.ensures in
    let has = has_lead c.args.change.now.window c.args.count c.unchanged_first-lead.result now lead in
    inserted_followed c.args.change.now old now c.args.count c.unchanged_first-lead.result put has inner reads lead c.args.tables.now (c.if-not-can_follow.ensures.come refl) few rest room f
    c.add_to_tables.new.tables c.add_to_tables.ensures.firm c.in_ok-add_to_tables.ensures.tables c.in_ok-add_to_tables.ensures.short

pub returns-clause-comes : goal.returns-clause-comes
returns-clause-comes g c = λ old put inner reads rest before after f back.
    let now = g.L.ItemList.items c.args.items.now in
    let lead = c.unchanged_first-lead.ensures in
    trails_back c.args.change.now old now c.args.count c.unchanged_first-lead.result put (has_lead c.args.change.now.window c.args.count c.unchanged_first-lead.result now lead) inner reads lead before after rest f back

pub returns-in_err-add_to_tables-clause-back : goal.returns-in_err-add_to_tables-clause-back
returns-in_err-add_to_tables-clause-back g c = err_always c.from_residual.result (λ old inner reads put rest room f.
    let now = g.L.ItemList.items c.args.items.now in
    let few : length now < 2 ^ 64 = omega (arith, c.count.ensures, c.count.type_inv) in
    let lead = c.unchanged_first-lead.ensures in
    let has = has_lead c.args.change.now.window c.args.count c.unchanged_first-lead.result now lead in
    inserted_back c.args.change.now old now c.args.count c.unchanged_first-lead.result put has inner reads lead c.args.tables.now (c.if-not-can_follow.ensures.come refl) few rest room f
    c.add_to_tables.new.tables c.in_err-add_to_tables.ensures.err)
