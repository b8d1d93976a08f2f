-- Counting braces from left to right.
use Rattle.bib_scan.proofs.Words.{◌≡◌, ℕ, ◌+◌, ◌≤◌, Text, opened_before, closed_before}

-- `depth` braces are open after the first i bytes, and no prefix up to there closes more than it opens
pub record Counted (t : Text) (i depth : ℕ) : Type 0 where
  pub sum : depth + closed_before t i ≡ opened_before t i
  pub small : depth ≤ i
  pub below : (n : ℕ) → n ≤ i → closed_before t n ≤ opened_before t n
