-- Ids that are their own numbers.
use Rattle.std.specs.Prelude.{◌≡◌, ◌≤◌, ◌<◌, ◌++◌, ℕ, zero, suc, List, [], ◌∷◌, vec_capacity}
use Rattle.std.specs.declared.vec.Vec.{Vec}

-- the numbers below this one, in order
abbrev pub counted : ℕ → List ℕ
counted zero = []
counted (suc n) = counted n ++ n ∷ []

-- if `count` ids are not written down, the list is empty and has room for them; if `count` is 0, nothing is asked
pub record HasRoom {Z : Type 0} (count : ℕ) (list : Vec ℕ Z) : Type 0 where
  pub none : 0 < count → list.items ≡ []
  pub room : 0 < count → count ≤ vec_capacity list
