-- What hints look like. (dialect)
use Rattle.std.specs.Prelude.{◌≡◌, ℕ, ◌+◌, ◌≤◌, ◌==◌, ◌||◌, nat_lt, List, [], ◌∷◌, ◌++◌, length, if◌then◌else◌}
use Rattle.std.specs.List.{flat_map}
use Rattle.bib_spec.specs.Text.{Text}

-- a control byte as a caret and a letter, as `^[`; another byte as it is
abbrev pub visible : ℕ → List ℕ
visible b = if nat_lt b 32 || b == 127 then 94 ∷ (if b == 127 then 63 else b + 64) ∷ [] else b ∷ []

-- a line of hints: two spaces, words without a control byte, and a line feed
abbrev pub hint_line : Text → Text
hint_line words = 32 ∷ 32 ∷ (flat_map visible words ++ 10 ∷ [])

-- at most so many lines
abbrev pub line_limit : ℕ
line_limit = 8

-- the text is a few lines of hints, or none
pub record AreHints (text : Text) : Type 0 where
  pub lines : List Text
  pub few : length lines ≤ line_limit
  pub laid_out : text ≡ flat_map hint_line lines
