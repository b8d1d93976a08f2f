use Rattle.bib_items.proofs.Words.{List, ◌+◌, subst, subst₂, sym, arith, Text, Span}
use Rattle.bib_items.proofs.ItemsIn.{AreKept, kept_none, kept_more, kept_all}
use Rattle.bib_items.proofs.page.compacted.Goals as goal

pub pass-init : goal.pass-init
pass-init c =
    subst₂ (λ (kept : Text) (places : List Span). AreKept c.args.shared.now c.args.own.now c.args.spans.now 0 kept places) (sym c.new-kept.ensures.items) (sym c.in_ok-places.ensures.items)
    (kept_none c.args.shared.now c.args.own.now c.args.spans.now)

pub pass-preserved : goal.pass-preserved
pass-preserved c =
    subst (λ (places : List Span). AreKept c.args.shared.now c.args.own.now c.args.spans.now (c.pass.n + 1) c.keep.new.kept.items places) (sym c.in_ok-push.ensures.items)
    (kept_more c.args.shared.now c.args.own.now c.args.spans.now c.pass.n c.pass.kept.items c.keep.new.kept.items c.pass.places.items c.in_ok-place.place
    c.pass-test.true c.pass.invariant c.keep.ensures.extends c.in_ok-place.ensures.lies c.in_ok-place.ensures.item)

pub returns-clause-items : goal.returns-clause-items
returns-clause-items c = kept_all c.args.shared.now c.args.own.now c.args.spans.now c.pass.n c.pass.kept.items c.pass.places.items (omega (arith, c.pass-test.false)) c.pass.invariant

pub returns-clause-lie : goal.returns-clause-lie
returns-clause-lie c = c.pass.invariant.lie
