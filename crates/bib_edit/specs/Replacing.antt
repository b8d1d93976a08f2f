-- Bytes that stand for many tokens.
use Rattle.std.specs.Prelude.{ℕ, ◌+◌, List, [], ◌∷◌, length, map}
use Rattle.bib_spec.specs.Text.{Text}
use Rattle.bib_spec.specs.Pieces.{Piece}

-- these bytes stand for the token
abbrev pub replaced_by : Text → ℕ × Text → Piece
replaced_by new token = record { place = token.0; old = token.1; new = new }

-- these bytes stand for each token
abbrev pub replaced : Text → List (ℕ × Text) → List Piece
replaced new tokens = map (replaced_by new) tokens

-- how many bytes the tokens have
abbrev pub covered : List (ℕ × Text) → ℕ
covered [] = 0
covered (token ∷ tokens) = length token.1 + covered tokens
