-- The lengths in the lines of a log.
use Rattle.bib_run.proofs.Words.{◌≡◌, ℕ, ◌≤◌, ◌<◌, ◌^◌, ◌-◌, min, List, length, arith, old_len, new_len}
use Rattle.std.proofs.Common.{◌*◌}
use Rattle.std.proofs.Math.Nat.{min-eq_left}
use Rattle.std.proofs.lemmas.List.Elements.{All-from_recursion, All-weaker}
use Rattle.std.proofs.lemmas.List.Sums.{sum_by-le}
use Rattle.bib_spec.specs.Pieces.{Piece}
use Rattle.history_spec.specs.Steps.{AreWritable, HasSmallNumbers, number_limit}

-- the sum of small lengths of few pieces is small
few_small : (n sum : ℕ) → n ≤ number_limit → sum ≤ n * number_limit → sum < 2 ^ 64
few_small n sum few small = omega (arith, few, small)

pub old_len_small : (pieces : List Piece) → AreWritable pieces → old_len pieces < 2 ^ 64
old_len_small pieces s =
    few_small (length pieces) (old_len pieces) s.few (sum_by-le (λ (p : Piece). length p.old) number_limit pieces
    (All-weaker HasSmallNumbers (λ p. length p.old ≤ number_limit) (λ p small. small.old) pieces (All-from_recursion HasSmallNumbers pieces s.small)))

pub new_len_small : (pieces : List Piece) → AreWritable pieces → new_len pieces < 2 ^ 64
new_len_small pieces s =
    few_small (length pieces) (new_len pieces) s.few (sum_by-le (λ (p : Piece). length p.new) number_limit pieces
    (All-weaker HasSmallNumbers (λ p. length p.new ≤ number_limit) (λ p small. small.new) pieces (All-from_recursion HasSmallNumbers pieces s.small)))

-- so a step's lengths are shown as they are
shown_whole : (n : ℕ) → n < 2 ^ 64 → min n (2 ^ 64 - 1) ≡ n
shown_whole n small = min-eq_left (omega (arith, small))

pub old_len_shown : (pieces : List Piece) → AreWritable pieces → min (old_len pieces) (2 ^ 64 - 1) ≡ old_len pieces
old_len_shown pieces s = shown_whole (old_len pieces) (old_len_small pieces s)

pub new_len_shown : (pieces : List Piece) → AreWritable pieces → min (new_len pieces) (2 ^ 64 - 1) ≡ new_len pieces
new_len_shown pieces s = shown_whole (new_len pieces) (new_len_small pieces s)
