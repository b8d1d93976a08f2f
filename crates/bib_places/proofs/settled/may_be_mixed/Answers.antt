use Rattle.bib_places.proofs.ItemUnits.{item-of, item-entry, mixes-units}
use Rattle.bib_places.proofs.settled.may_be_mixed.Goals as goal

pub returns-in_ok-may-in-Some-Some-Some : goal.returns-in_ok-may-in-Some-Some-Some
returns-in_ok-may-in-Some-Some-Some g c may rb reads_b ro reads_o rt reads_t b o t see_b see_o see_t =
    let in_b = item-entry rb c.in-Some-Some-Some.b b (item-of rb c.item_of.result c.in-Some-Some-Some.b b c.in-Some-Some-Some.is-0 (c.item_of.ensures rb b see_b)) in
    let in_o = item-entry ro c.in-Some-Some-Some.o o (item-of ro c.item_of-2.result c.in-Some-Some-Some.o o c.in-Some-Some-Some.is-1 (c.item_of-2.ensures ro o see_o)) in
    let in_t = item-entry rt c.in-Some-Some-Some.t t (item-of rt c.item_of-3.result c.in-Some-Some-Some.t t c.in-Some-Some-Some.is-2 (c.item_of-3.ensures rt t see_t)) in
    mixes-units b o t _ _ _ c.args.mix in_b.2 in_o.2 in_t.2 (c.in_ok-may-in-Some-Some-Some.ensures may rb reads_b ro reads_o rt reads_t in_b.0 in_o.0 in_t.0 in_b.1 in_o.1 in_t.1)
