-- Small files with faults, and all their faults.
use Rattle.std.specs.Prelude.{ℕ, [], ◌∷◌, codes}
use Rattle.bib_spec.specs.Fault.{ReadingFault, ExpectedCommaOrClose, ExpectedValue, Unended}
use Rattle.bib_faults.specs.GoingOn.{Fault, Faults}

-- a fault of this kind at this place
abbrev pub fault : ReadingFault → ℕ → Fault
fault kind place = record { kind = kind; place = place }

-- Reading goes on with the next item even in the same line; a second fault of the same item is not met.
pub record FaultsAreListed : Type 0 where
  pub same_line : Faults (codes "@misc{a b} @misc{c d}") (fault ExpectedCommaOrClose 8 ∷ fault ExpectedCommaOrClose 19 ∷ [])
  pub each_entry : Faults (codes "@misc{a, t = 1 u = 2, v = 3}\n@misc{b, w = x y}\n") (fault ExpectedCommaOrClose 15 ∷ fault ExpectedCommaOrClose 44 ∷ [])
  pub definition : Faults (codes "@string{m = }\n@misc{a, t = m # n}") (fault ExpectedValue 12 ∷ [])
  -- the text after the place of a fault can begin with an item
  pub at_sign : Faults (codes "@misc{a @misc{b}") (fault ExpectedCommaOrClose 8 ∷ [])
  -- a brace that is not closed takes the rest of the file along
  pub unended : Faults (codes "@misc{a, t = {x}\n@misc{b, t = {y}") (fault ExpectedCommaOrClose 17 ∷ fault Unended 33 ∷ [])
