-- How much longer pieces make a text.
use Rattle.std.specs.Prelude.{ℕ, ◌+◌, List, [], ◌∷◌, length}
use Rattle.bib_spec.specs.Pieces.{Piece}

-- how many bytes go
abbrev pub olds_len : List Piece → ℕ
olds_len [] = 0
olds_len (p ∷ ps) = length p.old + olds_len ps

-- how many bytes come
abbrev pub news_len : List Piece → ℕ
news_len [] = 0
news_len (p ∷ ps) = length p.new + news_len ps
