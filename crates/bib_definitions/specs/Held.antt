-- How the definitions of one name are kept.
use Rattle.std.specs.Prelude.{◌≡◌, ◌+◌, ◌≤◌, ⊤, ℕ, List, [], ◌∷◌, vec_len, vec_capacity}
use Rattle.std.specs.declared.vec.Vec.{Vec}
use Rattle.bib_definitions.specs.declared.held.Definition.{Definition}
use Rattle.bib_definitions.specs.declared.held.Held.{Held}
use Rattle.bib_definitions.specs.declared.held.Held.TheVariants.{Nothing, One, Many}

-- the definitions in file order, whichever way they are kept
abbrev pub definitions_held : Held → List Definition
definitions_held Nothing = []
definitions_held (One d) = d ∷ []
definitions_held (Many ds) = ds.items

-- the memory is empty, and has room for `count` definitions
pub record HasRoom {Z : Type 0} (room : Vec Definition Z) (count : ℕ) : Type 0 where
  pub empty : room.items ≡ []
  pub none : vec_len room ≡ 0
  pub enough : count ≤ vec_capacity room

-- the definitions have room for one more, or the memory has room for them and one more
abbrev pub Fits : {Z : Type 0} → Held → Vec Definition Z → Type 0
Fits Nothing room = ⊤
Fits (One d) room = HasRoom room 2
Fits (Many ds) room = vec_capacity ds ≤ vec_len ds → HasRoom room (vec_len ds + 1)
