-- What stands at a number of a list, and what from there on.
use Rattle.bib_tokens.proofs.Words.{◌≡◌, ℕ, zero, suc, ◌+◌, ◌≤◌, ◌<◌, List, [], ◌∷◌, ◌++◌, Some, slice_get, take, drop, length, refl, sym, ◌∙◌, ap, arith, not-suc-le-zero, le_of_suc-le-suc, take_at, take_all}
use Rattle.std.proofs.Common.{length-take}
use Rattle.std.proofs.lemmas.List.{drop_more, take-take}
use Rattle.std.proofs.lemmas.Option.{slice_get_within, get_or_from_slice_get}

pub slice_get-within : {X : Type 0} (xs : List X) (n : ℕ) → n < length xs → (x : X) × (slice_get xs n ≡ Some x)
slice_get-within [] n lt = absurd (not-suc-le-zero lt)
slice_get-within (x ∷ xs) zero lt = (x, refl)
slice_get-within (x ∷ xs) (suc n) lt = slice_get-within xs n (le_of_suc-le-suc lt)

pub drop-next : {X : Type 0} (xs : List X) (n : ℕ) (x : X) → slice_get xs n ≡ Some x → drop n xs ≡ x ∷ drop (n + 1) xs
drop-next xs n x at = drop_more xs n x (slice_get_within xs n x at) ∙ ap (λ y. y ∷ drop (n + 1) xs) (get_or_from_slice_get xs n x x at)

-- ---- what stands first in a list that grows

pub stands_on : {X : Type 0} (xs ys zs : List X) → take (length xs) ys ≡ xs → take (length ys) zs ≡ ys → take (length xs) zs ≡ xs
stands_on xs ys zs stands stands' =
    let within : length xs ≤ length ys = omega (arith, ap length stands, length-take (length xs) ys) in
    sym (take-take (length xs) (length ys) zs within) ∙ ap (take (length xs)) stands' ∙ stands

pub stands_at_push : {X : Type 0} (xs ys : List X) (x : X) → take (length xs) ys ≡ xs → take (length xs) (ys ++ x ∷ []) ≡ xs
stands_at_push xs ys x stands = stands_on xs ys (ys ++ x ∷ []) stands (take_at ys (x ∷ []) (length ys) refl)

pub stands_alone : {X : Type 0} (xs : List X) → take (length xs) xs ≡ xs
stands_alone xs = take_all (length xs) xs (omega arith)
