use Rattle.bib_items.proofs.Words.{◌+◌, ◌<◌, ◌≤◌, List, length, subst, sym, arith, Item}
use Rattle.bib_items.proofs.Gathered.{IsFilledTo, filled_page, filled_whole, page_ends}
use Rattle.bib_items.proofs.filling.pages_over.Goals as goal

pub overflow_add-start : goal.overflow_add-start
overflow_add-start c =
    let order : c.fill.from ≤ c.min-to.result = omega (arith, c.fill-test.true, c.min-to.ensures, c.saturating_add.ensures) in
    let e = page_ends c.args.text.now c.requires.0 c.fill.from c.min-to.result c.fill.start c.in_ok-page.page c.requires.1 order (c.fill.invariant.1 c.requires.0 c.requires.1) (c.in_ok-page.ensures c.requires.0 c.requires.1) in
    omega (arith, e.next, e.within, c.byte_len-start.ensures, c.len.ensures)

pub fill-preserved : goal.fill-preserved
fill-preserved c =
    let some : c.fill.from < c.min-to.result = omega (arith, c.fill-test.true, c.min-to.ensures, c.saturating_add.ensures) in
    let order : c.fill.from ≤ c.min-to.result = omega (arith, some) in
    let within : c.min-to.result ≤ c.fill.from + 64 = omega (arith, c.min-to.ensures, c.saturating_add.ensures) in
    let low : c.min-to.result ≤ length c.args.layout.now.items = omega (arith, c.min-to.ensures, c.len-count.ensures.count) in (
      subst (λ (pages : List (List Item)). IsFilledTo c.args.text.now c.min-to.result pages) (sym c.in_ok-push.ensures.items)
          (filled_page c.args.text.now c.args.layout.now c.fill.from c.min-to.result c.fill.pages.items c.in_ok-page.page c.requires some within low c.fill.invariant.0 c.in_ok-page.ensures),
      λ db reads.
          let e = page_ends c.args.text.now db c.fill.from c.min-to.result c.fill.start c.in_ok-page.page reads order (c.fill.invariant.1 db reads) (c.in_ok-page.ensures db reads) in
          omega (arith, c.byte_len-start.ensures, e.next),
    )

pub returns-clause-items : goal.returns-clause-items
returns-clause-items c =
    filled_whole c.args.text.now c.args.layout.now c.fill.from c.fill.pages.items c.requires (omega (arith, c.fill-test.false, c.len-count.ensures.count)) c.fill.invariant.0
