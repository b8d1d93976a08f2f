-- The ids that have one text, as they are kept.
use Rattle.std.proofs.Common.{◌≡◌, ℕ, ◌≤◌, zero, suc, List, [], ◌∷◌, length, insert, sym, ap, arith}

-- the first of them is put before none
pub insert_none : (ids : List ℕ) (k id : ℕ) → ids ≡ [] → k ≤ length ids → id ∷ [] ≡ insert ids k id
insert_none ids zero id none h = ap (λ (l : List ℕ). id ∷ l) (sym none)
insert_none ids (suc k) id none h = absurd (omega (arith, h, ap (length {A = ℕ}) none))
