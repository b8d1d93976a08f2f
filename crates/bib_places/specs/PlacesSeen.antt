-- The places of a merge in the code.
use Rattle.std.specs.Prelude.{ℕ, List, Option, None, Some, ⊤}
use Rattle.bib_spec.specs.Text.{Text}
use Rattle.bib_spec.specs.Reading.{Reading, Reads}
use Rattle.merge_spec.specs.Units.{Unit, spaced_of}
use Rattle.merge_spec.specs.ThreeWay as three
use Rattle.merge_spec.specs.ThreeWay.{entry_of}
use Rattle.merge_spec.specs.Merged as merged
use Rattle.merge_spec.specs.Merged.{unit_at}
use Rattle.bib_fields.specs.MixSeen.{type_seen, key_seen, rows_seen}
use Rattle.bib_units.specs.declared.unit_view.UnitView.{UnitView}
use Rattle.bib_units.specs.UnitsSeen.{IsUnit, IsUnitOfItem, AreUnits}
use Rattle.bib_places.specs.declared.place.Outcome.{Outcome}
use Rattle.bib_places.specs.declared.place.Outcome.TheVariants as outcome
use Rattle.bib_places.specs.declared.place.File.{File}
use Rattle.bib_places.specs.declared.place.File.TheVariants as file
use Rattle.bib_places.specs.declared.place.Place.{Place}

-- what becomes of units, as the definitions have it, given our form and theirs: those of an entry have the rows of which a merged
-- entry is made
abbrev pub outcome_seen : Option Unit → Option Unit → Outcome → three.Outcome
outcome_seen o t outcome.Ours = three.Ours
outcome_seen o t outcome.Theirs = three.Theirs
outcome_seen o t (outcome.Mixed mix) =
    three.Mixed (type_seen (entry_of o) (entry_of t) mix) (key_seen (entry_of o) (entry_of t) mix) mix.space.now (rows_seen (entry_of o) (entry_of t) mix)
outcome_seen o t outcome.Gone = three.Gone
outcome_seen o t outcome.Both = three.Both

-- a place, as the definitions have it, given the units of our file and of theirs
abbrev pub place_seen : List Unit → List Unit → Place → merged.Place
place_seen ours theirs p = record {
  base = p.base;
  ours = p.ours;
  theirs = p.theirs;
  outcome = outcome_seen (unit_at ours p.ours) (unit_at theirs p.theirs) p.outcome;
  space = p.space.now;
}

-- the number of the unit of this file at a place
abbrev pub number_in : File → Place → Option ℕ
number_in file.Base p = p.base
number_in file.Ours p = p.ours
number_in file.Theirs p = p.theirs

-- the unit of the code is this one of the file
abbrev pub SeesUnit : Reading → UnitView → Unit → Type 0
SeesUnit r view unit = (space : Text) × IsUnit r view (record { unit = unit; space = space })

-- the unit of the code is this one of the file, or both are absent
abbrev pub MaySee : Reading → Option UnitView → Option Unit → Type 0
MaySee r None None = ⊤
MaySee r (Some view) (Some unit) = SeesUnit r view unit
MaySee r None (Some unit) = ⊥
MaySee r (Some view) None = ⊥

-- the unit is there, and is the item with this number of the file
abbrev pub IsItemUnit : Reading → ℕ → Option Unit → Type 0
IsItemUnit r n None = ⊥
IsItemUnit r n (Some unit) = IsUnitOfItem r n unit

-- the reading is that of the file, and these are the units of the file
pub record IsSide (r : Reading) (file : Text) (views : List UnitView) : Type 0 where
  pub reads : Reads file r
  pub are : AreUnits r views (spaced_of r)
