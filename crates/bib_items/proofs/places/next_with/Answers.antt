use Rattle.bib_items.proofs.Words.{◌≡◌, ℕ, get_or, ◌+◌, ◌-◌, ◌≤◌, ◌<◌, ◌∙◌, List, [], length, ap, subst₂, arith, between, get_or_read, Item, Sought, LacksPart, LackPart, page_at}
use Rattle.bib_items.proofs.Passed.{ArePassedOver, passed-before, passed-some, passed-page}
use Rattle.bib_items.proofs.places.next_with.Goals as goal
use Rattle.bib_items.proofs.places.next_with.Goals.{then-len-before, else-len-before+else-k-len}

-- items of a page that its search passes over
passed : (s found : Sought) (pages : List (List Item)) (page : List Item) (p from skip next k : ℕ) → p < length pages → page ≡ get_or pages p page → skip ≤ k → k ≤ length page → found ≡ s → LackPart found (between skip k page)
    → ArePassedOver (λ (i : Item). LacksPart s i.body) pages p from skip next → ArePassedOver (λ (i : Item). LacksPart s i.body) pages p from k (next + (k - skip))
passed s found pages page p from skip next k inside read low high same lack is =
    let seen = get_or_read pages p page inside read [] in
    passed-some (λ (i : Item). LacksPart s i.body) pages p from skip next k inside low (omega (arith, high, ap (length {A = Item}) seen)) (subst₂ (λ (x : Sought) (l : List Item). LackPart x (between skip k l)) same seen lack) is

pub overflow_add-next : goal.overflow_add-next
overflow_add-next c =
    let next = passed c.args.sought c.of-sought.result c.args.pages.now c.index-pages-p.result c.pass.p c.args.from c.pass.before c.pass.next c.next_with-k.result
    c.pass-test.true c.index-pages-p.is c.next_with-k.ensures.order c.next_with-k.ensures.within c.of-sought.ensures c.next_with-k.ensures.sought c.pass.invariant.0 in
    let within = next.within in omega (arith, within, c.requires.count)

pub returns-then-k-len-clause-within : goal.returns-then-k-len-clause-within
returns-then-k-len-clause-within c =
    let next = passed c.args.sought c.of-sought.result c.args.pages.now c.index-pages-p.result c.pass.p c.args.from c.pass.before c.pass.next c.next_with-k.result
    c.pass-test.true c.index-pages-p.is c.next_with-k.ensures.order c.next_with-k.ensures.within c.of-sought.ensures c.next_with-k.ensures.sought c.pass.invariant.0 in
    next.within

pub returns-then-k-len-clause-sought : goal.returns-then-k-len-clause-sought
returns-then-k-len-clause-sought c =
    let next = passed c.args.sought c.of-sought.result c.args.pages.now c.index-pages-p.result c.pass.p c.args.from c.pass.before c.pass.next c.next_with-k.result
    c.pass-test.true c.index-pages-p.is c.next_with-k.ensures.order c.next_with-k.ensures.within c.of-sought.ensures c.next_with-k.ensures.sought c.pass.invariant.0 in
    next.lack

pub returns-then-k-len-clause-other : goal.returns-then-k-len-clause-other
returns-then-k-len-clause-other c =
    let next = passed c.args.other c.of-other.result c.args.pages.now c.index-pages-p.result c.pass.p c.args.from c.pass.before c.pass.next c.next_with-k.result
    c.pass-test.true c.index-pages-p.is c.next_with-k.ensures.order c.next_with-k.ensures.within c.of-other.ensures c.next_with-k.ensures.other c.pass.invariant.1 in
    next.lack

pub pass-preserved : goal.pass-preserved
pass-preserved c =
    let seen : c.index-pages-p.result ≡ page_at c.args.pages.now c.pass.p = get_or_read c.args.pages.now c.pass.p c.index-pages-p.result c.pass-test.true c.index-pages-p.is [] in
    let len : c.len-len.result ≡ length (page_at c.args.pages.now c.pass.p) = c.len-len.ensures ∙ ap (length {A = Item}) seen in
    elim c.if-len-before.branch [
      | then-len-before w ↦ rw (w.before-is, w.next-is) (
        passed-before (λ (i : Item). LacksPart c.args.sought i.body) c.args.pages.now c.pass.p c.args.from c.pass.before c.pass.next c.len-len.result c.pass-test.true len w.if-len-before.true c.pass.invariant.0,
        passed-before (λ (i : Item). LacksPart c.args.other i.body) c.args.pages.now c.pass.p c.args.from c.pass.before c.pass.next c.len-len.result c.pass-test.true len w.if-len-before.true c.pass.invariant.1,
      )
      | else-len-before+else-k-len w ↦
          let high : w.next_with-k.result ≤ c.len-len.result = omega (arith, c.len-len.ensures, w.next_with-k.ensures.within) in
          rw (w.before-is, w.next-is) (
            passed-page (λ (i : Item). LacksPart c.args.sought i.body) c.args.pages.now c.pass.p c.args.from w.next_with-k.result (c.pass.next + (w.next_with-k.result - c.pass.before)) c.len-len.result c.pass-test.true len w.if-k-len.false high
                (passed c.args.sought c.of-sought.result c.args.pages.now c.index-pages-p.result c.pass.p c.args.from c.pass.before c.pass.next w.next_with-k.result
                c.pass-test.true c.index-pages-p.is w.next_with-k.ensures.order w.next_with-k.ensures.within c.of-sought.ensures w.next_with-k.ensures.sought c.pass.invariant.0),
            passed-page (λ (i : Item). LacksPart c.args.other i.body) c.args.pages.now c.pass.p c.args.from w.next_with-k.result (c.pass.next + (w.next_with-k.result - c.pass.before)) c.len-len.result c.pass-test.true len w.if-k-len.false high
                (passed c.args.other c.of-other.result c.args.pages.now c.index-pages-p.result c.pass.p c.args.from c.pass.before c.pass.next w.next_with-k.result
                c.pass-test.true c.index-pages-p.is w.next_with-k.ensures.order w.next_with-k.ensures.within c.of-other.ensures w.next_with-k.ensures.other c.pass.invariant.1),
          )
    ]
