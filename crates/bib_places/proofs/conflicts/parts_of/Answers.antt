use Rattle.bib_places.proofs.ItemUnits.{numbered, item-entry, parts-units}
use Rattle.bib_places.proofs.conflicts.parts_of.Goals as goal

pub returns-in_ok-parts-in-Some-Some-Some : goal.returns-in_ok-parts-in-Some-Some-Some
returns-in_ok-parts-in-Some-Some-Some g c rb reads_b ro reads_o rt reads_t ub uo ut see_b see_o see_t =
    let in_b = item-entry rb c.in-Some-Some-Some.b ub (numbered rb c.args.b ub c.in-Some-Some-Some.b c.in-Some-Some-Some.is-0 see_b) in
    let in_o = item-entry ro c.in-Some-Some-Some.o uo (numbered ro c.args.o uo c.in-Some-Some-Some.o c.in-Some-Some-Some.is-1 see_o) in
    let in_t = item-entry rt c.in-Some-Some-Some.t ut (numbered rt c.args.t ut c.in-Some-Some-Some.t c.in-Some-Some-Some.is-2 see_t) in
    parts-units ub uo ut _ _ _ _ in_b.2 in_o.2 in_t.2 (c.in_ok-parts-in-Some-Some-Some.ensures rb reads_b ro reads_o rt reads_t in_b.0 in_o.0 in_t.0 in_b.1 in_o.1 in_t.1)
