-- The conflict over the units that meet at a place.
use Rattle.std.proofs.Common.{◌≡◌, List, [], ◌∷◌, Option, None, Some, ap, ap₂}
use Rattle.bib_spec.specs.Reading.{Reading}
use Rattle.merge_spec.specs.Units.{Unit, Label}
use Rattle.merge_spec.specs.ThreeWay.{entry_of}
use Rattle.merge_spec.specs.Conflicts.{ChangedPart, Change, Changed, Conflict, parts_in_conflict, change_of}
use Rattle.bib_units.specs.declared.unit_view.UnitView.{UnitView}
use Rattle.bib_places.specs.PlacesSeen.{MaySee}

-- each side has changed the unit
pub changed : (rb ro rt : Reading) (vb vo vt : UnitView) (b o t : Option Unit) (parts : List ChangedPart) → MaySee rb (Some vb) b → MaySee ro (Some vo) o → MaySee rt (Some vt) t →
    parts ≡ parts_in_conflict (entry_of b) (entry_of o) (entry_of t) → Changed parts ≡ change_of b o t
changed rb ro rt vb vo vt None o t parts see_b see_o see_t is = absurd see_b
changed rb ro rt vb vo vt (Some b) None t parts see_b see_o see_t is = absurd see_o
changed rb ro rt vb vo vt (Some b) (Some o) None parts see_b see_o see_t is = absurd see_t
changed rb ro rt vb vo vt (Some b) (Some o) (Some t) parts see_b see_o see_t is = ap Changed is

abbrev over : Change → Label → Conflict
over change label = record { change = change; label = label }

-- one conflict
pub one-conflict : (x y : Change) (k l : Label) → x ≡ y → k ≡ l → over x k ∷ [] ≡ over y l ∷ []
one-conflict x y k l changes labels = ap₂ (λ c m. over c m ∷ []) changes labels
