-- What the loops over braces keep.
use Rattle.bib_scan.proofs.Words.{◌≡◌, ◌≤◌, ◌<◌, ℕ, length, take, drop, Text, Read, with_front, read_value_rest, read_links}

-- The text is read up to `at`, and `depth` braces are open there.
pub record Scanned (F : ℕ → Text → Read Text) (t : Text) (at depth : ℕ) : Type 0 where
  pub within : at ≤ length t
  pub shallow : depth ≤ at
  pub read : F 0 t ≡ with_front (take at t) (F depth (drop at t))

-- The text after the value is the text after the parts that are left in `rest`, which has at most as many parts as bytes.
pub record LeadsOn (limit : ℕ) (t rest : Text) : Type 0 where
  pub shorter : length rest < length t
  pub read : (n : ℕ) × (length rest ≤ n) × (read_value_rest limit t ≡ read_links limit n rest)
