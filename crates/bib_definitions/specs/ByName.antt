-- The definitions of each name, as the code keeps them.
use Rattle.std.specs.Prelude.{◌≡◌, ◌≤◌, ℕ, nat_lt, nat_eq, bytes_eq, List, [], ◌∷◌, length, map, Option, Some, None, unwrap_or, if◌then◌else◌}
use Rattle.std.specs.List.{All}
use Rattle.std.specs.List.Sorted.{IsNonDecreasingBy}
use Rattle.bib_spec.specs.Text.{Text, folded}
use Rattle.bib_spec.specs.Texts.{Macros, months}
use Rattle.folded_map.specs.FoldedMap.{value_at}
use Rattle.bib_value.specs.Macros.{or_else}
use Rattle.bib_definitions.specs.declared.held.Definition.{Definition}
use Rattle.bib_definitions.specs.declared.held.Held.{Held}
use Rattle.bib_definitions.specs.Held.{definitions_held}

-- the defined names, folded, each with its definitions in file order; a name without definitions may stand among them
abbrev pub Defined : Type 0
Defined = List (Text × List Definition)

-- the definitions of a folded name, in file order
abbrev pub definitions_of : Defined → Text → List Definition
definitions_of defined name = unwrap_or (value_at defined name) []

-- the text of the last of these definitions with a label below l
abbrev pub text_before : ℕ → List Definition → Option Text
text_before l [] = None
text_before l (d ∷ ds) = or_else (text_before l ds) (if nat_lt d.label l then Some d.text else None)

-- what macros stand for after the definitions with a label below l: the text of the name's last definition among them, or
-- else the month
abbrev pub texts_before : Defined → ℕ → Macros
texts_before defined l = λ name. or_else (text_before l (definitions_of defined name)) (months name)

-- no definition has a text of more bytes than `longest`, and no month is longer either
pub record AreAsLong (longest : ℕ) (defined : Defined) : Type 0 where
  pub each : (name : Text) → All (λ d. length d.text ≤ longest) (definitions_of defined name)
  pub month : 9 ≤ longest

-- ---- all definitions in file order

-- these definitions, as folded names with their texts, with these labels
abbrev pub labelled : List ℕ → List (Text × Text) → List (Text × Definition)
labelled [] all = []
labelled (l ∷ labels) [] = []
labelled (l ∷ labels) (d ∷ all) = (d.0, record { label = l; text = d.1 }) ∷ labelled labels all

-- those of a folded name
abbrev pub named_among : Text → List (Text × Definition) → List Definition
named_among name [] = []
named_among name (d ∷ all) = if bytes_eq name d.0 then d.1 ∷ named_among name all else named_among name all

-- ---- a definition that comes or goes

-- the definitions with this one among them: before the first whose label isn't below its own
abbrev pub with_definition : Definition → List Definition → List Definition
with_definition new [] = new ∷ []
with_definition new (d ∷ ds) = if nat_lt d.label new.label then d ∷ with_definition new ds else new ∷ d ∷ ds

-- the definitions without the first that has this label
abbrev pub without_label : ℕ → List Definition → List Definition
without_label l [] = []
without_label l (d ∷ ds) = if nat_eq d.label l then ds else d ∷ without_label l ds

-- the name, folded, gets these definitions, and those of all other names are unchanged
abbrev pub Gives : Defined → Text → List Definition → Defined → Type 0
Gives old name list new = (x : Text) → definitions_of new x ≡ (if bytes_eq x (folded name) then list else definitions_of old x)

-- ---- how they are kept

-- definitions stand in the order of their labels
abbrev pub Ascends : List Definition → Type 0
Ascends ds = IsNonDecreasingBy (λ d. d.label) ds

-- the definitions of each name stand in the order of their labels
abbrev pub AreInOrder : Defined → Type 0
AreInOrder defined = (name : Text) → Ascends (definitions_of defined name)

-- each name with the definitions that are held for it
abbrev pub each_held : List (Text × Held) → Defined
each_held lists = map (λ e. (e.0, definitions_held e.1)) lists
