use Rattle.bib_edit.proofs.Words.{◌≡◌, ◌∙◌, Some, sym, arith, defines, first_item, none-count, first-count, none_defines, many_define}
use Rattle.bib_edit.proofs.TabledDefinitions.{tabled-count, tabled-first}
use Rattle.bib_edit.proofs.defining.lone_definition.Goals as goal

pub returns-then-definition_count-gt1-clause-refused : goal.returns-then-definition_count-gt1-clause-refused
returns-then-definition_count-gt1-clause-refused g c = many_define (λ db reads.
    let many = c.if-definition_count-gt1.true in
    let count = c.definition_count.ensures db reads in
    let same = tabled-count c.args.name.now db in omega (arith, many, count, same))

pub returns-in-Some-clause-lone : goal.returns-in-Some-clause-lone
returns-in-Some-clause-lone g c db reads =
    let few = c.if-definition_count-gt1.false in
    let count = c.definition_count.ensures db reads in
    let same = tabled-count c.args.name.now db in
    let found : first_item (defines c.args.name.now) db.items ≡ Some c.in-Some.n = sym (c.in-Some.ensures db reads ∙ tabled-first c.args.name.now db.items) in
    let some = first-count (defines c.args.name.now) db.items c.in-Some.n found in
    record { item = found; once = omega (arith, few, count, same, some) }

pub returns-in-None-clause-refused : goal.returns-in-None-clause-refused
returns-in-None-clause-refused g c = none_defines (λ db reads. none-count (defines c.args.name.now) db.items (c.in-None.ensures db reads ∙ tabled-first c.args.name.now db.items))
