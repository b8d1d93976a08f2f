-- The table of macros that the code keeps, as the macros of the definitions.
use Rattle.std.specs.Prelude.{◌≡◌, ◌≤◌, Bool, false, List, length, Option, Some, None, bytes_eq}
use Rattle.bib_spec.specs.Text.{Text, folded}
use Rattle.bib_spec.specs.Texts.{Macros, months, updated, raw_limit}
use Rattle.folded_map.specs.FoldedMap.{value_at}

-- the first of two texts, or the second if the first is missing
abbrev pub or_else : Option Text → Option Text → Option Text
or_else (Some t) other = Some t
or_else None other = other

-- each name stands for the text of its definition, else for the text of the month with this name
abbrev pub macros_of : List (Text × Text) → Macros
macros_of defined = λ name. or_else (value_at defined name) (months name)

-- no text is longer than a raw text may be
abbrev pub TextsAreShort : List (Text × Text) → Type 0
TextsAreShort defined = (name t : Text) → value_at defined name ≡ Some t → length t ≤ raw_limit

-- the same macros, except that this name, if there is one, stands for nothing
abbrev pub without : Option Text → Macros → Macros
without None macros = macros
without (Some name) macros = updated macros name None

-- the folded name is the name `own`, if there is one
abbrev pub is_own : Option Text → Text → Bool
is_own None name = false
is_own (Some own) name = bytes_eq name (folded own)
