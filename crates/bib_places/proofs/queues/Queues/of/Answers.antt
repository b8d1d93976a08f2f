use Rattle.std.proofs.Common.{◌≡◌, ◌+◌, ◌-◌, ◌<◌, ◌≤◌, ℕ, List, suc, length, get_or, Some, sym, ◌∙◌, ap, subst, arith}
use Rattle.std.specs.List.{range_with_len}
use Rattle.std.proofs.lemmas.Option.{slice_get-get_or}
use Rattle.bib_spec.specs.Text.{Text}
use Rattle.bib_places.specs.Queues.{marked_from, AreQueued}
use Rattle.bib_places.proofs.Queued.{all-marked, has-own}
use Rattle.bib_places.proofs.queues.Queues.of.Goals as goal

pub codes-preserved : goal.codes-preserved
codes-preserved c =
    let codes = c.args.codes.now in
    let n = c.codes.n in
    let so_far = c.codes.invariant.queued in
    let text = c.as_slice.result.now in
    let is : text ≡ get_or codes (n - 1) text = subst (λ (t : Text). t ≡ get_or codes (n - 1) t) (sym c.as_slice.ensures) c.index-codes-n.is in
    let within : n - 1 < length codes = omega (arith, c.codes-test.true, so_far.1) in
    let next : n ≡ (n - 1) + 1 = omega (arith, c.codes-test.true) in
    record {
      left = ap (λ v. v.items) c.in_ok-put.ensures.left ∙ c.codes.invariant.left;
      queued = (
        suc so_far.0,
        more n so_far.0 (length codes) c.codes-test.true so_far.1,
        c.in_ok-put.ensures.queued codes (range_with_len ((n - 1) + 1) so_far.0) (has-own codes (n - 1) text (slice_get-get_or codes (n - 1) text within ∙ ap Some (sym is)))
            (subst (λ k. AreQueued codes c.codes.queues.firsts c.codes.queues.links.items (range_with_len k so_far.0)) next so_far.2),
      );
    }
  where
    more : (a b k : ℕ) → 0 < a → a + b ≡ k → a - 1 + suc b ≡ k
    more a b k lt e = omega (arith, lt, e)

pub returns-clause-all : goal.returns-clause-all
returns-clause-all c = ap (marked_from 0) c.codes.invariant.left ∙ all-marked 0 (length c.args.codes.now)

pub returns-clause-queued : goal.returns-clause-queued
returns-clause-queued c =
    let codes = c.args.codes.now in
    let so_far = c.codes.invariant.queued in
    let queued : List ℕ → Type 0 = AreQueued codes c.codes.queues.firsts c.codes.queues.links.items in
    subst queued (sym (ap (marked_from 0) c.codes.invariant.left ∙ all-marked 0 (length codes)))
    (subst (λ k. queued (range_with_len 0 k)) (all c.codes.n so_far.0 (length codes) c.codes-test.false so_far.1)
    (subst (λ k. queued (range_with_len k so_far.0)) (none c.codes.n c.codes-test.false) so_far.2))
  where
    none : (a : ℕ) → a ≤ 0 → a ≡ 0
    none a le = omega (arith, le)

    all : (a b k : ℕ) → a ≤ 0 → a + b ≡ k → b ≡ k
    all a b k le e = omega (arith, le, e)
