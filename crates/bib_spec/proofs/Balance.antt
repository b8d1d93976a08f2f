-- Two texts whose braces match, one after the other.
use Rattle.std.proofs.Common.{◌≡◌, ℕ, zero, suc, ◌+◌, ◌-◌, ◌==◌, Bool, cond, List, [], ◌∷◌, ◌++◌, length, take, count_by, sym, ◌∙◌, ap, ap₂, arith}
use Rattle.std.proofs.lemmas.List.{take_all}
use Rattle.std.proofs.lemmas.List.Sums.{sum_by-append}
use Rattle.bib_spec.specs.Bytes.{open_brace, close_brace}
use Rattle.bib_spec.specs.Text.{Text, IsBalanced}

take-append : {X : Type 0} (n : ℕ) (xs ys : List X) → take n (xs ++ ys) ≡ take n xs ++ take (n - length xs) ys
take-append zero xs ys = let e : 0 ≡ 0 - length xs = omega arith in ap (λ k. take k ys) e
take-append (suc n) [] ys = let e : suc n ≡ suc n - 0 = omega arith in ap (λ k. take k ys) e
take-append (suc n) (x ∷ xs) ys =
    let e : n - length xs ≡ suc n - suc (length xs) = omega arith in
    ap (λ l. x ∷ l) (take-append n xs ys ∙ ap (λ k. take n xs ++ take k ys) e)

count-append : {X : Type 0} (p : X → Bool) (xs ys : List X) → count_by p (xs ++ ys) ≡ count_by p xs + count_by p ys
count-append p xs ys = sum_by-append (λ x. cond (p x) 1 0) xs ys

count_take : (p : ℕ → Bool) (xs ys : Text) (n : ℕ) → count_by p (take n (xs ++ ys)) ≡ count_by p (take n xs) + count_by p (take (n - length xs) ys)
count_take p xs ys n = ap (count_by p) (take-append n xs ys) ∙ count-append p (take n xs) (take (n - length xs) ys)

count_all : (p : ℕ → Bool) (xs ys : Text) → count_by p (take (length (xs ++ ys)) (xs ++ ys)) ≡ count_by p (take (length xs) xs) + count_by p (take (length ys) ys)
count_all p xs ys =
    ap (count_by p) (take_all (length (xs ++ ys)) (xs ++ ys) (omega arith)) ∙ count-append p xs ys
    ∙ ap₂ ◌+◌ (sym (ap (count_by p) (take_all (length xs) xs (omega arith)))) (sym (ap (count_by p) (take_all (length ys) ys (omega arith))))

pub balanced-append : (xs ys : Text) → IsBalanced xs → IsBalanced ys → IsBalanced (xs ++ ys)
balanced-append xs ys h k = record {
  never_negative = λ n.
      let c = count_take (λ b. b == close_brace) xs ys n in
      let o = count_take (λ b. b == open_brace) xs ys n in
      let a = h.never_negative n in
      let b = k.never_negative (n - length xs) in
      omega (arith, c, o, a, b);
  all_closed =
      count_all (λ b. b == close_brace) xs ys ∙ ap₂ ◌+◌ h.all_closed k.all_closed ∙ sym (count_all (λ b. b == open_brace) xs ys);
}
