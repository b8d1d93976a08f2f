-- How the ids that have one text are kept.
use Rattle.std.specs.Prelude.{ℕ, List, [], ◌∷◌}
use Rattle.bib_index.specs.declared.holders.Held.{Held}
use Rattle.bib_index.specs.declared.holders.Held.TheVariants.{Nothing, One, Many}

-- the ids in order, whichever way they are kept
abbrev pub ids_of : Held → List ℕ
ids_of Nothing = []
ids_of (One id) = id ∷ []
ids_of (Many ids) = ids.value.items
