-- Where a byte is in a file, as editors and compilers say it. (dialect)
use Rattle.std.specs.Prelude.{ℕ, ◌≡◌, ◌+◌, ◌≤◌, ◌==◌, Bool, length, take, fold, if◌then◌else◌}
use Rattle.bib_spec.specs.Bytes.{line_feed}
use Rattle.bib_spec.specs.Text.{Text}
use Rattle.bib_answers.specs.declared.positions.Position.{Position}
use Rattle.bib_answers.specs.declared.positions.Known.{Known}

-- a line and a column, both counted from 1
abbrev pub position : ℕ → ℕ → Position
position line column = record { line = line; column = column }

-- the byte ends a line
abbrev pub is_line_feed : ℕ → Bool
is_line_feed b = b == line_feed

-- the position after a byte that has this position: a line feed is the last byte of its line
abbrev pub position_after : Position → ℕ → Position
position_after at b = if b == line_feed then position (at.line + 1) 1 else position at.line (at.column + 1)

-- the position of the byte at a place in the file: lines and columns count from 1, and columns count bytes
abbrev pub position_of : Text → ℕ → Position
position_of file place = fold position_after (position 1 1) (take place file)

-- a place in the file, and its position
pub record IsKnown (file : Text) (known : Known) : Type 0 where
  pub within : known.place ≤ length file
  pub at : known.at ≡ position_of file known.place
