use Rattle.bib_items.proofs.Words.{◌≡◌, [], ◌∙◌, ◌+◌, ◌<◌, ◌-◌, ◌++◌, List, length, take, drop, refl, subst, subst₂, sym, ap, arith, Text, Reads, Span, all_stored, PageOwn, items_in, LieInEither}
use Rattle.bib_items.proofs.Covered.{laid-only}
use Rattle.bib_items.proofs.Gathered.{AreSpansOf, spans_none, spans_more}
use Rattle.bib_items.proofs.page.Page.of.Goals as goal

pub fill-init : goal.fill-init
fill-init c = subst (λ (spans : List Span). AreSpansOf c.args.text.now c.args.start c.args.from c.args.from spans c.args.start) (sym c.in_ok-spans.ensures.items) (spans_none c.args.text.now c.args.from c.args.start c.requires.start)

pub fill-preserved : goal.fill-preserved
fill-preserved c =
    let low : c.fill.n < length c.args.layout.now.items = omega (arith, c.fill-test.true, c.requires.within) in
    subst (λ (spans : List Span). AreSpansOf c.args.text.now c.args.start c.args.from (c.fill.n + 1) spans (c.fill.place + (length c.body-body.result.now + length c.trail-trail.result.now))) (sym c.in_ok-push.ensures.items)
    (spans_more c.args.text.now c.args.layout.now c.args.start c.args.from c.fill.n c.fill.spans.items c.fill.place (length c.body-body.result.now + length c.trail-trail.result.now) c.body-body.result.now c.trail-trail.result.now c.in_ok-of.field-0
    c.requires.layout c.fill.auto.n low c.fill.invariant
    (λ db i reads at. c.body-body.ensures db i (subst (λ (t : Text). Reads t db) (sym c.as_slice.ensures) reads) at)
    (λ db i reads at. c.trail-trail.ensures db i (subst (λ (t : Text). Reads t db) (sym c.as_slice-in-fill.ensures) reads) at)
    c.in_ok-of.ensures.start c.in_ok-of.ensures.body c.in_ok-of.ensures.trail refl)

pub invariant_of-result : goal.invariant_of-result
invariant_of-result c =
    laid-only _ [] c.fill.spans.items _ c.nothing.result c.nothing.ensures (subst (λ (t : Text). LieInEither t [] c.fill.spans.items) (sym c.in_ok-share.ensures) c.fill.invariant.lie) (omega (arith, c.fill.invariant.sum)) (omega (arith, c.fill.auto.place-fits))

pub returns : goal.returns
returns c = λ db reads.
    let ends : c.fill.n ≡ c.args.to = omega (arith, c.fill-test.false, c.fill.auto.n-end) in
    subst₂ (λ (shared own : Text). items_in (shared ++ own) c.fill.spans.items ≡ all_stored (take (c.args.to - c.args.from) (drop c.args.from db.items))) (sym c.in_ok-share.ensures) (sym (ap (λ (p : PageOwn). p.own) c.nothing.ensures))
    (c.fill.invariant.items db reads ∙ ap (λ n. all_stored (take (n - c.args.from) (drop c.args.from db.items))) ends)
