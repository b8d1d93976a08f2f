-- Texts with several owners.
use Rattle.std.specs.Prelude.{ℕ}
use Rattle.std.specs.declared.vec.Vec.{Vec}
use Rattle.bib_spec.specs.Text.{Text}

-- the bytes that a vector has
abbrev pub bytes_in : {Z : Type 0} → Vec ℕ Z → Text
bytes_in text = text.items
