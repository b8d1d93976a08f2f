-- What is kept of a group's output, so that no joint counts its text characters again.
use Rattle.std.specs.Prelude.{ℕ, ◌≤◌, ◌++◌, length}
use Rattle.bib_spec.specs.Text.{Text}
use Rattle.bib_names.specs.Places.{places_from}
use Rattle.bib_names.specs.Special.{begins_char}
use Rattle.bib_names.specs.Scanning.{AreBraces}

-- at least `count` text characters begin in the text, whatever text follows it
abbrev pub AreKnown : Text → ℕ → Type 0
AreKnown text count = (more : Text) → count ≤ length (places_from (begins_char (text ++ more)) 0 (length text))

-- what is kept of an output: how many braces open and close in it, and how many of its text characters are known
pub record IsOutput (text : Text) (opened closed count : ℕ) : Type 0 where
  pub braces : AreBraces text (length text) opened closed
  pub known : AreKnown text count
