use Rattle.bib_tokens.proofs.Words.{◌<◌, ◌+◌, false, length, sym, ◌∙◌, ap, arith, take_all, any_part, have_part, test_of}
use Rattle.bib_tokens.proofs.FirstFound.{first-is, first-none}
use Rattle.bib_tokens.proofs.MetParts.{met-next}
use Rattle.bib_tokens.proofs.PassedItems.{met-first}
use Rattle.bib_tokens.proofs.tokens.first_with.Goals as goal

pub returns-then-has-clause-first : goal.returns-then-has-clause-first
returns-then-has-clause-first g c db reads =
    let count = c.item_count-count.ensures db reads in
    first-is (any_part (test_of c.args.sought)) db.items c.items.n (sym (c.items.invariant db reads).1) (omega (arith, count, c.items-test.true))
    (λ item at. sym (c.in_ok-has.ensures.sought db reads item at) ∙ c.if-has.true)

pub items-preserved : goal.items-preserved
items-preserved g c db reads =
    let count = c.item_count-count.ensures db reads in
    let here : c.items.n < length db.items = omega (arith, count, c.items-test.true) in
    let next = c.next_with-n-in-items.ensures in
    let so_far = c.items.invariant db reads in (
      next.within db reads,
      met-next (test_of c.args.sought) db.items c.items.n false here so_far.1 false (λ item at. sym c.if-has.false ∙ c.in_ok-has.ensures.sought db reads item at)
          ∙ sym (met-first (test_of c.args.sought) db.items (c.items.n + 1) c.next_with-n-in-items.result next.order (next.sought db reads)),
      met-next (test_of c.args.watched) db.items c.items.n c.items.met here so_far.2 c.in_ok-has.has.watched (c.in_ok-has.ensures.watched db reads)
          ∙ sym (met-first (test_of c.args.watched) db.items (c.items.n + 1) c.next_with-n-in-items.result next.order (next.other db reads)),
    )

pub returns-clause-first : goal.returns-clause-first
returns-clause-first g c db reads =
    let count = c.item_count-count.ensures db reads in
    first-none (any_part (test_of c.args.sought)) db.items
    (sym ((c.items.invariant db reads).1 ∙ ap (have_part (test_of c.args.sought)) (take_all c.items.n db.items (omega (arith, count, c.items-test.false)))))
