-- A place that is put among the others.
use Rattle.std.proofs.Common.{◌≡◌, ℕ, true, List, [], ◌∷◌, ◌++◌, Option, None, Some, map, slice_get, refl, sym, ◌∙◌, ap, subst}
use Rattle.std.specs.List.{list_all}
use Rattle.bib_spec.specs.Text.{is_space}
use Rattle.bib_spec.specs.Reading.{Reading}
use Rattle.merge_spec.specs.Units.{Unit, Spaced, Label, label_of, units_of}
use Rattle.merge_spec.specs.Merged.{unit_at, may_come}
use Rattle.bib_units.specs.declared.unit_view.UnitView.{UnitView}
use Rattle.bib_units.specs.Labels.{label_seen}
use Rattle.bib_units.specs.UnitsSeen.{AreUnits}
use Rattle.bib_places.specs.declared.place.Place.{Place}
use Rattle.bib_places.specs.PlacesSeen.{MaySee, outcome_seen, place_seen}
use Rattle.bib_places.specs.NumbersLeft.{has_label, Goes, IsTaken, AreSoFar}
use Rattle.bib_places.proofs.Lists.{map-snoc}
use Rattle.bib_places.proofs.UnitsMet.{may-see}
use Rattle.bib_places.proofs.PlacesPut.{Has, labelled-self, put-more}

-- the unit of the file with this number, where the code has one
pub seen-unit : (r : Reading) (views : List UnitView) (all : List Spaced) (n : ℕ) (view : UnitView) → AreUnits r views all → slice_get views n ≡ Some view
    → (u : Unit) × (slice_get (map (λ s. s.unit) all) n ≡ Some u) × (label_of u ≡ label_seen view.label)
seen-unit r views all n view are here = at (slice_get (map (λ s. s.unit) all) n) refl (subst (λ o. MaySee r o (slice_get (map (λ s. s.unit) all) n)) here (may-see r views all n are))
  where
    at : (o : Option Unit) → slice_get (map (λ s. s.unit) all) n ≡ o → MaySee r (Some view) o → (u : Unit) × (slice_get (map (λ s. s.unit) all) n ≡ Some u) × (label_of u ≡ label_seen view.label)
    at None is sees = absurd sees
    at (Some u) is sees = (u, is, sym sees.1.label)

-- there is none, where the code has none
pub unseen : (r : Reading) (views : List UnitView) (all : List Spaced) (n : ℕ) → AreUnits r views all → slice_get views n ≡ None → slice_get (map (λ s. s.unit) all) n ≡ None
unseen r views all n are here = at (slice_get (map (λ s. s.unit) all) n) (subst (λ o. MaySee r o (slice_get (map (λ s. s.unit) all) n)) here (may-see r views all n are))
  where
    at : (o : Option Unit) → MaySee r None o → o ≡ None
    at None sees = refl
    at (Some u) sees = absurd sees

-- the unit with this number has the label
pub has-here : (units : List Unit) (label : Label) (n : ℕ) (u : Unit) → slice_get units n ≡ Some u → label_of u ≡ label → has_label units label n ≡ true
has-here units label n u here is = subst (λ l. has_label units l n ≡ true) is (labelled-self units n u here)

-- the places with one more, at which units of the label meet
pub put-place : (labels : List Label) (rb ro rt : Reading) (places new : List Place) (place : Place) (b o t : Option ℕ) (label : Label) (lb lb' lo lo' lt lt' : List ℕ)
    → new ≡ places ++ place ∷ [] → place.base ≡ b → place.ours ≡ o → place.theirs ≡ t
    → Goes b lb lb' → Has label (unit_at (units_of rb) b) → IsTaken (units_of ro) label o lo lo' → IsTaken (units_of rt) label t lt lt'
    → may_come labels (unit_at (units_of rb) b) (unit_at (units_of ro) o) (unit_at (units_of rt) t) (outcome_seen (unit_at (units_of ro) o) (unit_at (units_of rt) t) place.outcome) ≡ true → list_all is_space place.space.now ≡ true
    → AreSoFar labels (units_of rb) (units_of ro) (units_of rt) (map (place_seen (units_of ro) (units_of rt)) places) lb lo lt
    → AreSoFar labels (units_of rb) (units_of ro) (units_of rt) (map (place_seen (units_of ro) (units_of rt)) new) lb' lo' lt'
put-place labels rb ro rt places new place b o t label lb lb' lo lo' lt lt' is is_b is_o is_t goes has_b taken_o taken_t may white so_far =
    let seen = place_seen (units_of ro) (units_of rt) in
    subst (λ ps. AreSoFar labels (units_of rb) (units_of ro) (units_of rt) ps lb' lo' lt') (sym (ap (map seen) is ∙ map-snoc seen places place))
    (put-more labels (units_of rb) (units_of ro) (units_of rt) (map seen places) (seen place) label lb lb' lo lo' lt lt'
    (subst (λ m. Goes m lb lb') (sym is_b) goes)
    (subst (λ m. Has label (unit_at (units_of rb) m)) (sym is_b) has_b)
    (subst (λ m. IsTaken (units_of ro) label m lo lo') (sym is_o) taken_o)
    (subst (λ m. IsTaken (units_of rt) label m lt lt') (sym is_t) taken_t)
    (subst (λ m. may_come labels (unit_at (units_of rb) m) (unit_at (units_of ro) place.ours) (unit_at (units_of rt) place.theirs) (outcome_seen (unit_at (units_of ro) place.ours) (unit_at (units_of rt) place.theirs) place.outcome) ≡ true) (sym is_b)
    (subst (λ m. may_come labels (unit_at (units_of rb) b) (unit_at (units_of ro) m) (unit_at (units_of rt) place.theirs) (outcome_seen (unit_at (units_of ro) m) (unit_at (units_of rt) place.theirs) place.outcome) ≡ true) (sym is_o)
    (subst (λ m. may_come labels (unit_at (units_of rb) b) (unit_at (units_of ro) o) (unit_at (units_of rt) m) (outcome_seen (unit_at (units_of ro) o) (unit_at (units_of rt) m) place.outcome) ≡ true) (sym is_t) may)))
    white so_far)
