-- What a test of a limit tells where it fails.
use Rattle.bib_edit.proofs.Words.{◌≡◌, ℕ, ◌<◌, ◌≤◌, nat_lt, Bool, true, false, ⊎_elim, cases_Bool, both_ways, ltb-true, ltb-false}

pub not_over : (b : Bool) (x y : ℕ) → (x < y → b ≡ true) → b ≡ false → y ≤ x
not_over b x y over not = ⊎_elim (λ t. absurd (both_ways b not (over (ltb-true x y t)))) (λ t. ltb-false x y t) (cases_Bool (nat_lt x y))
