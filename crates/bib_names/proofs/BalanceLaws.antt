-- The test of balance.
use Rattle.bib_names.proofs.Words.{◌≡◌, ℕ, zero, suc, ◌+◌, ◌≤◌, ◌<◌, Bool, true, false, eqb, length, take, refl, sym, ap, ◌∙◌, arith, count_by, range_with_len, list_all, take_all, ltb, eqb-true, eq-eqb, leb-true, le-leb, ltb-true, ltb-false, and_parts, Text, opened_before, closed_before}
use Rattle.bib_names.proofs.Words.{balances}
use Rattle.std.proofs.Common.{⊎_elim}
use Rattle.std.specs.Prelude.{nat_le, IsTrue}
use Rattle.std.proofs.lemmas.Bool.{cases_Bool}
use Rattle.bib_spec.specs.Text.{IsBalanced}

all_range : (p : ℕ → Bool) (at n : ℕ) → ((k : ℕ) → p k ≡ true) → list_all p (range_with_len at n) ≡ true
all_range p at zero all = refl
all_range p at (suc n) all = rw (all at) (all_range p (at + 1) n all)

range_all : (p : ℕ → Bool) (at n : ℕ) → list_all p (range_with_len at n) ≡ true → (k : ℕ) → k < n → p (at + k) ≡ true
range_all p at zero all k lt = absurd (omega arith)
range_all p at (suc n) all zero lt = let e : at + 0 ≡ at = omega arith in ap p e ∙ (and_parts (p at) _ all).0
range_all p at (suc n) all (suc k) lt = let e : at + suc k ≡ at + 1 + k = omega arith in ap p e ∙ range_all p (at + 1) n (and_parts (p at) _ all).1 k (omega arith)

-- no more braces close than open before the place
abbrev covers : Text → ℕ → Bool
covers text n = nat_le (closed_before text n) (opened_before text n)

pub balances-yes : (text : Text) → IsBalanced text → balances text ≡ true
balances-yes text is =
    rw (eq-eqb (closed_before text (length text)) (opened_before text (length text)) is.all_closed) (all_range (covers text) 0 (length text) (λ n. le-leb (closed_before text n) (opened_before text n) (is.never_negative n)))

below : (text : Text) → list_all (covers text) (range_with_len 0 (length text)) ≡ true → closed_before text (length text) ≡ opened_before text (length text) → (n : ℕ) → closed_before text n ≤ opened_before text n
below text all level n =
    elim (ltb n (length text)) as (λ b. ltb n (length text) ≡ b → closed_before text n ≤ opened_before text n) [
      | true ↦ λ e. let at : 0 + n ≡ n = omega arith in
          leb-true (closed_before text n) (opened_before text n) (ap (covers text) (sym at) ∙ range_all (covers text) 0 (length text) all n (ltb-true n (length text) e))
      | false ↦ λ e. let whole : take n text ≡ take (length text) text = take_all n text (ltb-false n (length text) e) ∙ sym (take_all (length text) text (omega arith)) in
          omega (arith, ap (count_by (λ b. eqb b 125)) whole, ap (count_by (λ b. eqb b 123)) whole, level)
    ] refl

pub IsBalanced-from_test : (text : Text) → balances text ≡ true → IsBalanced text
IsBalanced-from_test text e =
    let parts = and_parts (eqb (closed_before text (length text)) (opened_before text (length text))) (list_all (covers text) (range_with_len 0 (length text))) e in
    let level = eqb-true (closed_before text (length text)) (opened_before text (length text)) parts.0 in
    record { never_negative = below text parts.1 level; all_closed = level }

pub balances-no : (text : Text) → (IsBalanced text → ⊥) → balances text ≡ false
balances-no text is_not = ⊎_elim (λ (e : balances text ≡ true). absurd (is_not (IsBalanced-from_test text e))) (λ (e : balances text ≡ false). e) (cases_Bool (balances text))

-- an answer that says whether the text is balanced is the test
pub balances-is : (text : Text) (b : Bool) → (IsTrue b → IsBalanced text) → (IsBalanced text → IsTrue b) → b ≡ balances text
balances-is text true to from = sym (balances-yes text (to refl))
balances-is text false to from = go (balances text) refl
  where
    go : (b : Bool) → balances text ≡ b → false ≡ balances text
    go false e = sym e
    go true e = let h = from (IsBalanced-from_test text e) in absurd (cc)
