-- What the loop over ends keeps, and how it continues.
use Rattle.bib_steps.proofs.Words.{◌≡◌, ℕ, List, ◌++◌, map, drop, file_limit, Piece, end_of, reversed_from, EndBy}

-- the ends so far, and those of the pieces from i on, are the ends of all
pub record IsRenewed (all : List ℕ) (rest : List Piece) (ends : List ℕ) (end new_end i : ℕ) : Type 0 where
  pub so_far : ends ++ map end_of (reversed_from end new_end (drop i rest)) ≡ all
  pub short : EndBy file_limit (drop i rest)
  pub short_ends : EndBy file_limit (reversed_from end new_end (drop i rest))
