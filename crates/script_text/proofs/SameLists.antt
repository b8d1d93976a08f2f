-- Lists whose members are the same, one by one.
use Rattle.std.proofs.Common.{◌≡◌, ◌≢◌, ◌∙◌, refl, [], ◌∷◌, ℕ, ◌+◌, ◌<◌, ◌≤◌, ◌==◌, List, length, slice_index_or, sym, subst, arith, eqb-true, ⊎_elim}
use Rattle.std.proofs.lemmas.Bool.{cases_Bool, eqb-false}
use Rattle.std.proofs.lemmas.List.{get_or_default, ext_get_or}

-- the members of both lists below this number are the same
abbrev pub SameBelow : {X : Type 0} → List X → List X → ℕ → Type 0
SameBelow {X} a b n = (k : ℕ) → k < n → (d : X) → slice_index_or a k d ≡ slice_index_or b k d

pub same_more : {X : Type 0} (a b : List X) (n : ℕ) (x y : X) → SameBelow a b n → n < length a → n < length b → x ≡ slice_index_or a n x → y ≡ slice_index_or b n y → x ≡ y → SameBelow a b (n + 1)
same_more {X} a b n x y below in_a in_b at_a at_b is k lt d = ⊎_elim
    (λ here. subst (λ (m : ℕ). slice_index_or a m d ≡ slice_index_or b m d) (sym (eqb-true k n here))
    (get_or_default a n d x in_a ∙ sym at_a ∙ is ∙ at_b ∙ get_or_default b n y d in_b))
    (λ other. let apart : k ≢ n = eqb-false k n other in below k (omega (arith, lt, apart)) d)
    (cases_Bool (k == n))

-- lists of one length whose members are all the same are the same
pub same_all : {X : Type 0} (a b : List X) (n : ℕ) → length a ≡ length b → length a ≤ n → SameBelow a b n → a ≡ b
same_all [] [] n count past below = refl
same_all [] (y ∷ ys) n count past below = absurd (omega (arith, count))
same_all (x ∷ xs) b n count past below = ext_get_or x (x ∷ xs) b count (λ i lt. below i (omega (arith, lt, past)) x)
