use Rattle.bib_edit.proofs.Words.{◌+◌, ap, arith}
use Rattle.bib_edit.proofs.positions.place_after.Goals as goal

pub overflow_add-result : goal.overflow_add-result
overflow_add-result g c =
    let db = c.opens.ensures.0 in
    let reads = c.opens.ensures.1.reads in
    let within = c.in_ok-n.ensures.within db reads in
    let count = c.item_count.ensures db reads in
    let fits = c.item_count.type_inv in
    omega (arith, within, count, fits)

pub returns-clause-place : goal.returns-clause-place
returns-clause-place g c db reads =
    let before = c.in_ok-n.ensures.place db reads in
    (before.0, ap (λ k. k + 1) before.1)
