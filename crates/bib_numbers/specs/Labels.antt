-- Labels: numbers that stand for an order, and that keep their value when others come or go.
use Rattle.std.specs.Prelude.{ℕ, ◌<◌, ◌-◌, ◌^◌, ⊤, List, [], ◌∷◌}
use Rattle.std.specs.List.{AllByRecursion}

-- no label is as great
abbrev pub label_limit : ℕ
label_limit = 2 ^ 64 - 1

-- each number is less than those after it
abbrev pub Rise : List ℕ → Type 0
Rise [] = ⊤
Rise (m ∷ numbers) = AllByRecursion (λ k. m < k) numbers × Rise numbers

-- the numbers are labels, in order
pub record AreLabels (labels : List ℕ) : Type 0 where
  pub rise : Rise labels
  pub within : AllByRecursion (λ l. l < label_limit) labels
