-- Facts about the value that some bytes are.
use Rattle.std.specs.Prelude.{◌≡◌}
use Rattle.bib_spec.specs.Bytes.{name_limit}
use Rattle.bib_spec.specs.Text.{Text}
use Rattle.bib_spec.specs.Tree.{Value, value_bytes, IsValue}

-- P is true of the value with these bytes
abbrev pub OfValue : Text → (Value → Type 0) → Type 0
OfValue bytes P = (v : Value) → IsValue name_limit v → value_bytes v ≡ bytes → P v
