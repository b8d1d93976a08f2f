-- Ids keep their order while others come and go.
use Rattle.bib_order.proofs.Words.{◌≡◌, ◌≢◌, ℕ, ◌+◌, ◌-◌, ◌≤◌, ◌<◌, Bool, true, false, List, length, insert, remove, ⊎_elim, ◌∙◌, ap, arith, cases_Bool, cond-true, cond-false}
use Rattle.std.proofs.Common.{nat_lt, cond}
use Rattle.std.specs.Prelude.{slice_index}
use Rattle.std.proofs.lemmas.Bool.{ltb-true, ltb-false}
use Rattle.std.proofs.lemmas.List.Edits.{get_or-insert_below, get_or-insert_above, get_or-remove_below, get_or-remove_above}
use Rattle.bib_order.specs.Orders.{after_insert, after_remove, KeepsOrder}

-- where an id stands afterwards, on both sides of another
record IsShifted (at n moved after : ℕ) (below : Bool) : Type 0 where
  low : below ≡ true → (n < at) × (moved ≡ n)
  high : below ≡ false → (at ≤ n) × (moved ≡ after)

shifted : (at n after : ℕ) → IsShifted at n (cond (nat_lt n at) n after) after (nat_lt n at)
shifted at n after = record {
  low = λ e. (ltb-true n at e, cond-true (nat_lt n at) n after e);
  high = λ e. (ltb-false n at e, cond-false (nat_lt n at) n after e);
}

inserted : (ids : List ℕ) (at id n : ℕ) → at ≤ length ids → n < length ids → slice_index (insert ids at id) (after_insert at n) ≡ slice_index ids n
inserted ids at id n h k =
    let s = shifted at n (n + 1) in
    ⊎_elim
    (λ e. ap (slice_index (insert ids at id)) ((s.low e).1) ∙ get_or-insert_below ids at id 0 n ((s.low e).0) h)
    (λ e. ap (slice_index (insert ids at id)) ((s.high e).1) ∙ get_or-insert_above ids at id 0 n ((s.high e).0) h)
    (cases_Bool (nat_lt n at))

removed : (ids : List ℕ) (at n : ℕ) → at < length ids → n ≢ at → slice_index (remove ids at) (after_remove at n) ≡ slice_index ids n
removed ids at n h other =
    let s = shifted at n (n - 1) in
    ⊎_elim
    (λ e. ap (slice_index (remove ids at)) ((s.low e).1) ∙ get_or-remove_below ids at 0 n ((s.low e).0) h)
    (λ e.
    let above : at ≤ n = (s.high e).0 in
    let back : n - 1 + 1 ≡ n = omega (arith, other) in
    ap (slice_index (remove ids at)) ((s.high e).1) ∙ get_or-remove_above ids at 0 (n - 1) (omega (arith, other)) h ∙ ap (slice_index ids) back)
    (cases_Bool (nat_lt n at))

inserted_order : (at n m : ℕ) → n < m → after_insert at n < after_insert at m
inserted_order at n m h =
    let s = shifted at n (n + 1) in
    let t = shifted at m (m + 1) in
    ⊎_elim
    (λ e. ⊎_elim (λ f. omega (arith, s.low e, t.low f)) (λ f. omega (arith, s.low e, t.high f)) (cases_Bool (nat_lt m at)))
    (λ e. ⊎_elim (λ f. omega (arith, s.high e, t.low f)) (λ f. omega (arith, s.high e, t.high f)) (cases_Bool (nat_lt m at)))
    (cases_Bool (nat_lt n at))

removed_order : (at n m : ℕ) → n ≢ at → m ≢ at → n < m → after_remove at n < after_remove at m
removed_order at n m a b h =
    let s = shifted at n (n - 1) in
    let t = shifted at m (m - 1) in
    ⊎_elim
    (λ e. ⊎_elim (λ f. omega (arith, s.low e, t.low f)) (λ f. omega (arith, b, s.low e, t.high f)) (cases_Bool (nat_lt m at)))
    (λ e. ⊎_elim (λ f. omega (arith, s.high e, t.low f)) (λ f. omega (arith, a, b, s.high e, t.high f)) (cases_Bool (nat_lt m at)))
    (cases_Bool (nat_lt n at))

pub kept_order : KeepsOrder
kept_order = record { inserted = inserted; inserted_order = inserted_order; removed = removed; removed_order = removed_order }
