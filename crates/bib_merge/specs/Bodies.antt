-- The items of a merge, by their bodies.
use Rattle.std.specs.Prelude.{ℕ, ◌≡◌, ◌≢◌, List, [], ◌∷◌, ◌++◌, drop, map, Option, None, Some, option_map}
use Rattle.std.specs.List.{flat_map}
use Rattle.std.specs.Option.{option_map_or, option_to_list}
use Rattle.bib_spec.specs.Text.{Text}
use Rattle.bib_spec.specs.Tree.{tree_bytes}
use Rattle.bib_spec.specs.Reading.{Reading}
use Rattle.merge_spec.specs.Units.{Unit}
use Rattle.merge_spec.specs.ThreeWay.{Outcome, Ours, Theirs, Mixed, Gone, Both}
use Rattle.merge_spec.specs.Merged.{Place, unit_at, mixed_bytes}

-- the bodies of the items of a file, in order
abbrev pub bodies_of : Reading → List Text
bodies_of db = map (λ i. tree_bytes i.tree) db.items

-- the body of the item that a unit is; a text between items has none
abbrev pub unit_bodies : Unit → List Text
unit_bodies u = option_to_list (option_map tree_bytes u.tree)

-- the same of a unit that may be absent
abbrev pub version_bodies : Option Unit → List Text
version_bodies u = option_map_or unit_bodies u []

-- the bodies of the items that stay of a unit, given our form of it and theirs, and what becomes of it
abbrev pub outcome_bodies : Option Unit → Option Unit → Outcome → List Text
outcome_bodies o t Ours = version_bodies o
outcome_bodies o t Theirs = version_bodies t
outcome_bodies o t (Mixed kind key within rows) = mixed_bytes o kind key within rows ∷ []
outcome_bodies o t Gone = []
outcome_bodies o t Both = version_bodies o ++ version_bodies t

-- the bodies of the items of a place
abbrev pub place_bodies : List Unit → List Unit → Place → List Text
place_bodies ours theirs p = outcome_bodies (unit_at ours p.ours) (unit_at theirs p.theirs) p.outcome

-- the bodies of the items of a merge, in order
abbrev pub merged_bodies : List Unit → List Unit → List Place → List Text
merged_bodies ours theirs places = flat_map (place_bodies ours theirs) places

-- The texts begin with those that are wanted, which are as many as this number; or there is no number, and they do not begin with
-- them.
abbrev pub AreMet : List Text → List Text → Option ℕ → Type 0
AreMet texts wanted (Some n) = wanted ++ drop n texts ≡ texts
AreMet texts wanted None = (rest : List Text) → texts ≢ wanted ++ rest
