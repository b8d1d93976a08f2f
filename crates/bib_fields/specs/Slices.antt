-- Parts of a text.
use Rattle.std.specs.Prelude.{ℕ, ◌+◌, List, [], ◌∷◌, take, drop, length}
use Rattle.bib_spec.specs.Text.{Text}
use Rattle.bib_scan.specs.View.{View}
use Rattle.bib_scan.specs.declared.fields.FieldView.{FieldView}

-- the bytes between two places
abbrev pub between : Text → ℕ → ℕ → Text
between t from to = drop from (take to t)

-- the place of the last value of these fields and its length, or this place and length if there is no field
abbrev pub last_value : ℕ × ℕ → List FieldView → ℕ × ℕ
last_value p [] = p
last_value p (field ∷ fields) = last_value (field.value_at, length field.value.now) fields

-- the bytes of an entry after its last value, or after its key
abbrev pub after_last : View → List FieldView → Text
after_last v fields = let p = last_value (v.key_at, length v.key) fields in drop (p.0 + p.1) v.body
