-- Bits of a mask, and the braces among 32 bytes.
use Rattle.bib_scan.proofs.Words.{◌≡◌, ◌↔◌, ℕ, zero, suc, ◌-◌, ◌<◌, ◌≤◌, Bool, true, false, ◌||◌, cond, eqb, List, [], ◌∷◌, map, length, get_or, bit_and, refl, sym, ap, subst, ◌∙◌, arith, inl, inr, bit_at, cases_lt, cases_eq, length-map, is_byte2}
use Rattle.std.proofs.Common.{◌/◌, ◌%◌, ◌^◌, replicate, bit_or}
use Rattle.std.specs.Simd.Lanes.{zip2, mask_l, top}
use Rattle.std.proofs.lemmas.List.{get_or-map, get_or_past}
use Rattle.std.proofs.lemmas.Nat.Bits.{bit_at_lowest, bit_at-suc, bit_at-lt, bit_at_and}
use Rattle.std.proofs.lemmas.Simd.{bit_mask_l, mask_l-mod, zip2_splat, zip2_of_maps}

-- m - 1 has the bits of m above any bit that is set
above_set : (j k m : ℕ) → j < k → bit_at m j ≡ 1 → bit_at (m - 1) k ≡ bit_at m k
above_set j zero m low set = absurd (omega arith)
above_set zero (suc k) m low set =
    let half : (m - 1) / 2 ≡ m / 2 = omega (arith, bit_at_lowest m) in
    bit_at-suc (m - 1) k ∙ ap (λ n. bit_at n k) half ∙ sym (bit_at-suc m k)
above_set (suc j) (suc k) m low set =
    elim (cases_eq (m % 2) 0) [
      | inl even ↦
          let half : (m - 1) / 2 ≡ m / 2 - 1 = omega arith in
          bit_at-suc (m - 1) k ∙ ap (λ n. bit_at n k) half ∙ above_set j k (m / 2) (omega arith) (sym (bit_at-suc m j) ∙ set) ∙ sym (bit_at-suc m k)
      | inr odd ↦
          let half : (m - 1) / 2 ≡ m / 2 = omega arith in
          bit_at-suc (m - 1) k ∙ ap (λ n. bit_at n k) half ∙ sym (bit_at-suc m k)
    ]

-- m - 1 does not have the lowest bit of m
lowest_cleared : (k m : ℕ) → bit_at m k ≡ 1 → ((j : ℕ) → bit_at m j ≡ 1 → k ≤ j) → bit_at (m - 1) k ≡ 0
lowest_cleared zero m set low = omega (arith, bit_at_lowest m, bit_at_lowest (m - 1))
lowest_cleared (suc k) m set low =
    let even : m % 2 ≡ 0 =
    elim (cases_eq (m % 2) 0) [
      | inl e ↦ e
      | inr odd ↦
          let one : bit_at m 0 ≡ 1 = omega (arith, bit_at_lowest m) in
          absurd (omega (arith, low 0 one))
    ]
    in
    let half : (m - 1) / 2 ≡ m / 2 - 1 = omega arith in
    bit_at-suc (m - 1) k ∙ ap (λ n. bit_at n k) half ∙ lowest_cleared k (m / 2) (sym (bit_at-suc m k) ∙ set) (λ j s. omega (arith, low (suc j) (bit_at-suc m j ∙ s)))

-- `m & (m - 1)` has the bits of m except its lowest
pub bit_at-without_lowest : (m place : ℕ) → bit_at m place ≡ 1 → ((j : ℕ) → bit_at m j ≡ 1 → place ≤ j) → (k : ℕ) → (bit_at (bit_and m (m - 1)) k ≡ 1) ↔ ((bit_at m k ≡ 1) × (place < k))
bit_at-without_lowest m place set low k = (
  λ h.
      let here : bit_at m k ≡ 1 = omega (arith, bit_at_and m (m - 1) k, bit_at-lt m k) in
      let before : bit_at (m - 1) k ≡ 1 = omega (arith, bit_at_and m (m - 1) k, bit_at-lt (m - 1) k) in
      elim (cases_eq place k) [
        | inl same ↦ absurd (omega (arith, subst (λ j. bit_at (m - 1) j ≡ 0) same (lowest_cleared place m set low)))
        | inr other ↦ (here, omega (arith, low k here))
      ],
  λ h. omega (arith, bit_at_and m (m - 1) k, above_set place k m h.1 set, h.0),
)

-- ---- lanes

-- a bit of the mask of the lanes that pass a test
set_tells : (b : Bool) → (cond {A = ℕ} b 1 0 ≡ 1) ↔ (b ≡ true)
set_tells true = (λ h. refl, λ h. refl)
set_tells false = (λ h. absurd (omega arith), λ h. sym (ap (λ b. cond {A = ℕ} b 0 1) h))

module _ (test : ℕ → Bool) (v : List ℕ) (n k : ℕ) (long : length v ≡ n) where
  pub bit_at-lanes : (bit_at (mask_l (map test v)) k ≡ 1) ↔ ((k < n) × (test (get_or v k 0) ≡ true))
  bit_at-lanes =
      let is : bit_at (mask_l (map test v)) k ≡ cond (get_or (map test v) k false) 1 0 = bit_mask_l (map test v) k in
      let tells = set_tells (get_or (map test v) k false) in
      elim (cases_lt k n) [
        | inl low ↦
            let lane : get_or (map test v) k false ≡ test (get_or v k 0) = get_or-map test v k 0 false (omega arith) in
            (λ h. (low, sym lane ∙ tells.0 (sym is ∙ h)), λ h. is ∙ tells.1 (lane ∙ h.1))
        | inr high ↦
            let gone : get_or (map test v) k false ≡ false = get_or_past (map test v) k false (omega (arith, length-map v test)) in
            (λ h. absurd (omega (arith, is, ap (λ b. cond {A = ℕ} b 1 0) gone)), λ h. absurd (omega arith))
      ]

abbrev hit : ℕ → ℕ → ℕ
hit a b = cond (eqb a b) 255 0

either_top : (a b : Bool) → top 7 (bit_or (cond a 255 0) (cond b 255 0)) ≡ (a || b)
either_top true true = refl
either_top true false = refl
either_top false true = refl
either_top false false = refl

tops : (a b : ℕ) (v : List ℕ) → map (top 7) (map (λ x. bit_or (hit x a) (hit x b)) v) ≡ map (is_byte2 a b) v
tops a b [] = refl
tops a b (x ∷ xs) = λ i. either_top (eqb x a) (eqb x b) i ∷ tops a b xs i

-- the mask of the lanes that hold one of two bytes
pub mask-of_two : (a b n : ℕ) (v : List ℕ) → length v ≡ n → n ≤ 64
    → mask_l (map (top 7) (zip2 bit_or (zip2 hit v (replicate n a)) (zip2 hit v (replicate n b)))) % 2 ^ 64 ≡ mask_l (map (is_byte2 a b) v)
mask-of_two a b n v long few =
    ap (λ ms. mask_l ms % 2 ^ 64) (ap (map (top 7)) (zip2_of_maps bit_or (λ x. hit x a) (λ x. hit x b) v (zip2_splat hit v n a long) (zip2_splat hit v n b long)) ∙ tops a b v)
    ∙ mask_l-mod (map (is_byte2 a b) v) 64 (omega (arith, length-map v (is_byte2 a b)))
