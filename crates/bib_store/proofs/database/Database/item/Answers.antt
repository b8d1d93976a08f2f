use Rattle.bib_store.proofs.Words.{◌≡◌, List, [], Some, sym, ap, ◌∙◌, arith, slice_get-get_or, Note, item, item_at}
use Rattle.std.proofs.Common.{slice_get}
use Rattle.bib_store.proofs.KeptItems.{kept_as, count_kept, item_seen}
use Rattle.bib_store.proofs.database.Database.item.Goals as goal

pub returns-in-Some : goal.returns-in-Some
returns-in-Some g c = λ db r.
    let items = g.L.ItemList.items c.self.inside.items in
    let k = kept_as c.self.inside.front items c.self.inside.tables c.args.self.now c.self.invariant.0 c.self.view_is db r in
    let noted : slice_get c.self.inside.notes c.args.n ≡ Some c.in-Some.note = ap (λ (ns : List Note). slice_get ns c.args.n) (sym c.as_slice.ensures) ∙ sym c.in-Some.ensures in
    let at : slice_get items c.args.n ≡ Some (item_at items c.args.n) = slice_get-get_or items c.args.n (item [] []) (omega (arith, c.requires db r, count_kept db c.self.inside.front items c.self.inside.tables k)) in
    item_seen db c.self.inside.front items c.self.inside.tables c.args.n c.texts.result.0.now c.texts.result.1.now c.noted.result k c.texts.ensures.body c.texts.ensures.trail
    (λ tree is whole. c.noted.ensures.item tree is whole (c.self.invariant.1 c.args.n c.in-Some.note (item_at items c.args.n) noted at tree is (whole ∙ c.texts.ensures.body)))

pub returns-in-None : goal.returns-in-None
returns-in-None g c = λ db r.
    let k = kept_as c.self.inside.front (g.L.ItemList.items c.self.inside.items) c.self.inside.tables c.args.self.now c.self.invariant.0 c.self.view_is db r in
    item_seen db c.self.inside.front (g.L.ItemList.items c.self.inside.items) c.self.inside.tables c.args.n c.texts.result.0.now c.texts.result.1.now c.of.result k c.texts.ensures.body c.texts.ensures.trail c.of.ensures.item
