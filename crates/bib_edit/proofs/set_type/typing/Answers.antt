use Rattle.bib_edit.proofs.Words.{length, ◌∙◌, ap, arith}
use Rattle.bib_edit.proofs.TypedEntries.{type-within, typing-is}
use Rattle.bib_edit.proofs.set_type.typing.Goals as goal

pub item_place-requires : goal.item_place-requires
item_place-requires g c db reads = let within = c.requires db reads in omega (arith, within)

pub overflow_add-result : goal.overflow_add-result
overflow_add-result g c =
    let inside = type-within c.args.db.now c.args.n c.item_place.result c.item-view.result c.requires c.opens.ensures c.item_place.ensures c.item-view.ensures in
    let body = ap length c.body.ensures in
    let place = c.type_place.ensures.within in
    omega (arith, inside, body, place)

pub returns-clause-piece : goal.returns-clause-piece
returns-clause-piece g c =
    typing-is c.args.db.now c.args.n c.item_place.result c.type_place.result c.item-view.result c.args.kind_name.now _ _ c.body.result.now c.item_place.ensures c.item-view.ensures c.type_place.ensures.place c.body.ensures
    (c.in_ok-copied.ensures ∙ c.type_name.ensures) c.in_ok-copied-2.ensures
