use Rattle.bib_tokens.proofs.Words.{◌+◌, false, sym, ◌∙◌, arith, test_of}
use Rattle.bib_tokens.proofs.MetParts.{met-next, met-within}
use Rattle.bib_tokens.proofs.PassedItems.{met-first, none-before}
use Rattle.bib_tokens.proofs.tokens.is_met_before.Goals as goal

pub returns-then-branch : goal.returns-then-branch
returns-then-branch g c db reads =
    let within = c.requires db reads in
    met-within (test_of c.args.watched) db.items c.items.k c.args.n c.items-test.true (omega (arith, within, c.items-test.true)) (λ i at. sym (c.in_ok-look_at.ensures.watched db reads i at) ∙ c.if-branch.true)

pub items-preserved : goal.items-preserved
items-preserved g c db reads =
    let within = c.requires db reads in
    let next = c.next_with-k-in-items.ensures in (
      next.within db reads,
      met-next (test_of c.args.watched) db.items c.items.k false (omega (arith, within, c.items-test.true)) (c.items.invariant db reads).1 false (λ i at. sym c.if-branch.false ∙ c.in_ok-look_at.ensures.watched db reads i at)
          ∙ sym (met-first (test_of c.args.watched) db.items (c.items.k + 1) c.next_with-k-in-items.result next.order (next.sought db reads)),
    )

pub returns : goal.returns
returns g c db reads = none-before (test_of c.args.watched) db.items c.args.n c.items.k c.items-test.false (c.items.invariant db reads).1
