-- A list, walked through from its front.
use Rattle.bib_keys.proofs.Words.{◌≡◌, ℕ, ◌+◌, ◌<◌, List, ◌∷◌, Some, slice_get, get_or, drop, length, ⊎_elim, sym, ◌∙◌, ap, arith}
use Rattle.std.proofs.lemmas.List.{drop_more}
use Rattle.std.proofs.lemmas.Option.{slice_get_cases}

-- the item that was read at a place, and the items after it
pub next-read : {X : Type 0} (xs : List X) (i : ℕ) (x : X) → i < length xs → x ≡ get_or xs i x → drop i xs ≡ x ∷ drop (i + 1) xs
next-read xs i x lt is = drop_more xs i x lt ∙ ap (λ y. y ∷ drop (i + 1) xs) (sym is)

-- the item at a place, and the items after it
pub next-of : {X : Type 0} (xs : List X) (i : ℕ) → i < length xs → (x : X) × (slice_get xs i ≡ Some x) × (drop i xs ≡ x ∷ drop (i + 1) xs)
next-of xs i lt = ⊎_elim
    (λ found. (found.0, found.2, next-read xs i found.0 lt (sym found.3)))
    (λ past. let le = past.0 in absurd (omega (arith, lt, le)))
    (slice_get_cases xs i).1
