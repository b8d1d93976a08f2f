use Rattle.std.proofs.Common.{◌+◌, ◌∙◌, ℕ, ap, sym, subst, arith, List, length, is_some, Option}
use Rattle.bibtex_places.specs.Parents.{parent_in}
use Rattle.bibtex_places.proofs.Runs.{IsWalk, walk_start, walk_more, walk_last, walk_none, not_deep, deep, no_parent}
use Rattle.bibtex_places.proofs.parents.up.Goals as goal

pub walk-init : goal.walk-init
walk-init c = walk_start (parent_in c.args.parents.now) c.args.i c.new-run.result.items c.new-run.ensures.items

pub walk-preserved : goal.walk-preserved
walk-preserved c =
    let parents : ℕ → Option ℕ = parent_in c.args.parents.now in
    let later = c.if-parent-heir.false in
    subst (λ (l : List ℕ). IsWalk parents c.args.i l c.in-Some.parent (c.walk.counter + 1)) (sym c.in_ok-push.ensures.items)
    (walk_more parents c.args.i c.walk.run.items c.walk.heir c.walk.counter c.in-Some.parent c.walk.invariant (sym c.parent_in.ensures ∙ c.in-Some.is) (omega (arith, later)) c.walk-test.true)

pub returns-in_default-clause-run : goal.returns-in_default-clause-run
returns-in_default-clause-run c = walk_none (parent_in c.args.parents.now) c.args.i c.walk.run.items c.walk.heir c.walk.counter c.walk.invariant (sym c.parent_in.ensures ∙ c.in_default.is)

pub returns-in_default-clause-short : goal.returns-in_default-clause-short
returns-in_default-clause-short c =
    let count = c.walk.invariant.count in
    let few = c.walk.invariant.few in
    not_deep (parent_in c.args.parents.now) c.args.i c.walk.run.items (walk_none (parent_in c.args.parents.now) c.args.i c.walk.run.items c.walk.heir c.walk.counter c.walk.invariant (sym c.parent_in.ensures ∙ c.in_default.is)) (omega (arith, count, few))

pub returns-then-parent-heir-clause-run : goal.returns-then-parent-heir-clause-run
returns-then-parent-heir-clause-run c =
    c.in_ok-push.ensures.items
    ∙ walk_last (parent_in c.args.parents.now) c.args.i c.walk.run.items c.walk.heir c.walk.counter c.in-Some.parent c.walk.invariant (sym c.parent_in.ensures ∙ c.in-Some.is) c.if-parent-heir.true

pub returns-then-parent-heir-clause-short : goal.returns-then-parent-heir-clause-short
returns-then-parent-heir-clause-short c =
    let count = c.walk.invariant.count in
    let few = c.walk-test.true in
    let long = ap (length {A = ℕ}) c.in_ok-push.ensures.items in
    not_deep (parent_in c.args.parents.now) c.args.i c.push.new.self.items
    (c.in_ok-push.ensures.items ∙ walk_last (parent_in c.args.parents.now) c.args.i c.walk.run.items c.walk.heir c.walk.counter c.in-Some.parent c.walk.invariant (sym c.parent_in.ensures ∙ c.in-Some.is) c.if-parent-heir.true)
    (omega (arith, count, few, c.in_ok-push.ensures.len))

pub returns-then-is_some-clause-deep : goal.returns-then-is_some-clause-deep
returns-then-is_some-clause-deep c is =
    deep (parent_in c.args.parents.now) c.args.i c.walk.run.items c.walk.heir c.walk.counter c.walk.invariant c.walk-test.false (ap is_some (sym c.parent_in-2.ensures) ∙ sym c.is_some.ensures ∙ c.if-is_some.true)

pub returns-clause-run : goal.returns-clause-run
returns-clause-run c =
    walk_none (parent_in c.args.parents.now) c.args.i c.walk.run.items c.walk.heir c.walk.counter c.walk.invariant
    (no_parent (parent_in c.args.parents.now) c.walk.heir (ap is_some (sym c.parent_in-2.ensures) ∙ sym c.is_some.ensures ∙ c.if-is_some.false))

pub returns-clause-short : goal.returns-clause-short
returns-clause-short c =
    let count = c.walk.invariant.count in
    let few = c.walk.invariant.few in
    not_deep (parent_in c.args.parents.now) c.args.i c.walk.run.items
    (walk_none (parent_in c.args.parents.now) c.args.i c.walk.run.items c.walk.heir c.walk.counter c.walk.invariant
    (no_parent (parent_in c.args.parents.now) c.walk.heir (ap is_some (sym c.parent_in-2.ensures) ∙ sym c.is_some.ensures ∙ c.if-is_some.false)))
    (omega (arith, count, few))
