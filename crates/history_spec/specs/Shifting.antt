-- Pieces of a text, with their places counted within a part of the text.
use Rattle.std.specs.Prelude.{ℕ, ◌-◌, List, map}
use Rattle.bib_spec.specs.Text.{Text}
use Rattle.bib_spec.specs.Pieces.{Piece, Fit, BeginFrom}

-- a piece of a text, with its place counted from the byte at `at`
abbrev pub moved_back : ℕ → Piece → Piece
moved_back at p = record { place = p.place - at; old = p.old; new = p.new }

-- the pieces, each with its place in the bytes that begin at `at`
abbrev pub all_moved_back : ℕ → List Piece → List Piece
all_moved_back at ps = map (moved_back at) ps

-- the pieces lie in these bytes of a text, which begin at `at`, and fit them
pub record FitAfter (at : ℕ) (ps : List Piece) (bytes : Text) : Type 0 where
  pub begin : BeginFrom at ps
  pub fit : Fit (all_moved_back at ps) bytes
