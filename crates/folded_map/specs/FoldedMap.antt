-- A map by folded names, as the list of the names with their values.
use Rattle.std.specs.Prelude.{◌≡◌, ◌<◌, List, [], ◌∷◌, length, Option, Some, None, if◌then◌else◌, bytes_eq}
use Rattle.bib_spec.specs.Bytes.{name_limit}
use Rattle.bib_spec.specs.Text.{Text, folded}

-- the value of a name
abbrev pub value_at : {V : Type 0} → List (Text × V) → Text → Option V
value_at [] name = None
value_at (e ∷ es) name = if bytes_eq name e.0 then Some e.1 else value_at es name

-- the name, folded, has this value, and the values of all other names are unchanged
abbrev pub IsWith : {V : Type 0} → List (Text × V) → Text → V → List (Text × V) → Type 0
IsWith old name v new = (x : Text) → value_at new x ≡ (if bytes_eq x (folded name) then Some v else value_at old x)

-- the name, folded, has no value, and the values of all other names are unchanged
abbrev pub IsWithout : {V : Type 0} → List (Text × V) → Text → List (Text × V) → Type 0
IsWithout old name new = (x : Text) → value_at new x ≡ (if bytes_eq x (folded name) then None else value_at old x)

-- a name that is too long has no value
abbrev pub NamesAreShort : {V : Type 0} → List (Text × V) → Type 0
NamesAreShort es = (name : Text) → name_limit < length name → value_at es name ≡ None
