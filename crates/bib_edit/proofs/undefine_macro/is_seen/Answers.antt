use Rattle.bib_edit.proofs.Words.{sym, ◌∙◌, ◌+◌, arith}
use Rattle.bib_edit.proofs.FoundItems.{defined-within}
use Rattle.bib_edit.proofs.UndefinedMacro.{seen-after}
use Rattle.bib_edit.proofs.undefine_macro.is_seen.Goals as goal

pub overflow_add-after : goal.overflow_add-after
overflow_add-after g c =
    let db = c.opens.ensures.0 in
    let reads = c.opens.ensures.1.reads in
    let within = defined-within c.args.name.now db c.args.n (c.requires db reads) in
    let count = c.item_count.ensures db reads in
    let many = c.item_count.type_inv in omega (arith, within, count, many)

pub push_from-requires : goal.push_from-requires
push_from-requires g c db reads =
    let within = defined-within c.args.name.now db c.args.n (c.requires db reads) in omega (arith, within)

pub returns-clause-seen : goal.returns-clause-seen
returns-clause-seen g c db reads =
    c.in_ok-push_from.ensures.met db reads ∙ sym (seen-after c.args.name.now db c.args.n (c.args.n + 1) (c.requires db reads) (omega arith))
