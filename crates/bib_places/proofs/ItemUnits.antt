-- Units that are items, and the entries that they are.
use Rattle.std.proofs.Common.{◌≡◌, ℕ, ◌++◌, List, [], ◌∷◌, Option, None, Some, refl, sym, ◌∙◌, ap, ap₂, subst}
use Rattle.std.specs.Prelude.{IfSome}
use Rattle.bib_spec.specs.Text.{Text}
use Rattle.bib_spec.specs.Tree.{Entry}
use Rattle.bib_spec.specs.Reading.{Item, Reading}
use Rattle.bib_spec.specs.Texts.{Macros, months, macros_at}
use Rattle.merge_spec.specs.Units.{Unit}
use Rattle.merge_spec.specs.ThreeWay.{entry_with, entry_of}
use Rattle.merge_spec.specs.Conflicts.{ChangedPart, Whole, parts_in_conflict}
use Rattle.bib_units.specs.declared.unit_view.UnitView.{UnitView}
use Rattle.bib_units.specs.UnitsSeen.{IsItemAt, HasItem}
use Rattle.bib_fields.specs.declared.mix.Mix.{Mix}
use Rattle.bib_fields.specs.MixSeen.{Mixes, mix_bytes}
use Rattle.bib_places.specs.PlacesSeen.{MaySee, IsItemUnit}

-- a unit with the number of an item
pub numbered : (r : Reading) (view : UnitView) (u : Option Unit) (n : ℕ) → view.item ≡ Some n → MaySee r (Some view) u → IsItemUnit r n u
numbered r view None n is sees = absurd sees
numbered r view (Some unit) n is sees = subst (λ (k : Option ℕ). HasItem r k unit) is sees.1.item

-- the number of the item that a unit is
pub item-unit : (r : Reading) (view : UnitView) (u : Option Unit) → MaySee r (Some view) u → IfSome view.item (λ n. IsItemUnit r n u)
item-unit r view u sees = at view.item refl
  where
    at : (o : Option ℕ) → view.item ≡ o → IfSome o (λ n. IsItemUnit r n u)
    at None is = tt
    at (Some n) is = numbered r view u n is sees

-- the item that a number is of, if the number is there
pub item-of : (r : Reading) (number : Option ℕ) (n : ℕ) (u : Option Unit) → number ≡ Some n → IfSome number (λ k. IsItemUnit r k u) → IsItemUnit r n u
item-of r number n u is found = subst (λ o. IfSome o (λ k. IsItemUnit r k u)) is found

-- the entry that a unit is, by its item
pub item-entry : (r : Reading) (n : ℕ) (u : Option Unit) → IsItemUnit r n u → (i : Item) × IsItemAt r n i × (entry_of u ≡ entry_with (macros_at months r.items n) (Some i.tree))
item-entry r n None is = absurd is
item-entry r n (Some unit) is = (is.item, is.at, ap₂ entry_with is.macros is.tree)

-- a merged entry of three items is one of three units
pub mixes-units : (b o t : Option Unit) (eb eo et : Option (Macros × Entry)) (mix : Mix) → entry_of b ≡ eb → entry_of o ≡ eo → entry_of t ≡ et → Mixes eb eo et mix → Mixes (entry_of b) (entry_of o) (entry_of t) mix
mixes-units b o t eb eo et mix is_b is_o is_t mixes =
    subst (λ e. Mixes e (entry_of o) (entry_of t) mix) (sym is_b) (subst (λ e. Mixes eb e (entry_of t) mix) (sym is_o) (subst (λ e. Mixes eb eo e mix) (sym is_t) mixes))

-- the bytes of a merged entry of two items are those of the units
pub bytes-units : (o t : Option Unit) (eo et : Option (Macros × Entry)) (mix : Mix) (old new : Text) → entry_of o ≡ eo → entry_of t ≡ et → new ≡ old ++ mix_bytes eo et mix → new ≡ old ++ mix_bytes (entry_of o) (entry_of t) mix
bytes-units o t eo et mix old new is_o is_t is = is ∙ ap₂ (λ x y. old ++ mix_bytes x y mix) (sym is_o) (sym is_t)

-- the parts in conflict of three items are those of the units
pub parts-units : (b o t : Option Unit) (eb eo et : Option (Macros × Entry)) (parts : List ChangedPart) → entry_of b ≡ eb → entry_of o ≡ eo → entry_of t ≡ et → parts ≡ parts_in_conflict eb eo et →
    parts ≡ parts_in_conflict (entry_of b) (entry_of o) (entry_of t)
parts-units b o t eb eo et parts is_b is_o is_t is =
    is ∙ ap₂ (λ x y. parts_in_conflict x y et) (sym is_b) (sym is_o) ∙ ap (parts_in_conflict (entry_of b) (entry_of o)) (sym is_t)

-- ---- a unit without an item

-- the unit is no item
is-text : (r : Reading) (view : UnitView) (u : Option Unit) → view.item ≡ None → MaySee r (Some view) u → entry_of u ≡ None
is-text r view None is sees = absurd sees
is-text r view (Some unit) is sees =
    let text : unit.tree ≡ None = subst (λ (k : Option ℕ). HasItem r k unit) is sees.1.item in
    ap (entry_with unit.macros) text

-- of three units of which one is no item the whole is in conflict
pub whole-first : (b o t : Option (Macros × Entry)) → b ≡ None → Whole ∷ [] ≡ parts_in_conflict b o t
whole-first None o t is = refl
whole-first (Some b) o t is = cc

pub whole-second : (b o t : Option (Macros × Entry)) → o ≡ None → Whole ∷ [] ≡ parts_in_conflict b o t
whole-second None o t is = refl
whole-second (Some b) None t is = refl
whole-second (Some b) (Some o) t is = cc

pub whole-third : (b o t : Option (Macros × Entry)) → t ≡ None → Whole ∷ [] ≡ parts_in_conflict b o t
whole-third None o t is = refl
whole-third (Some b) None t is = refl
whole-third (Some b) (Some o) None is = refl
whole-third (Some b) (Some o) (Some t) is = cc

-- whichever of the three is no item
pub whole-text : (rb ro rt : Reading) (vb vo vt : UnitView) (b o t : Option Unit) → MaySee rb (Some vb) b → MaySee ro (Some vo) o → MaySee rt (Some vt) t →
    ((x y z : ℕ) → vb.item ≡ Some x → vo.item ≡ Some y → vt.item ≡ Some z → ⊥) → Whole ∷ [] ≡ parts_in_conflict (entry_of b) (entry_of o) (entry_of t)
whole-text rb ro rt vb vo vt b o t see_b see_o see_t none = at vb.item vo.item vt.item refl refl refl
  where
    at : (x y z : Option ℕ) → vb.item ≡ x → vo.item ≡ y → vt.item ≡ z → Whole ∷ [] ≡ parts_in_conflict (entry_of b) (entry_of o) (entry_of t)
    at None y z ix iy iz = whole-first _ _ _ (is-text rb vb b ix see_b)
    at (Some x) None z ix iy iz = whole-second _ _ _ (is-text ro vo o iy see_o)
    at (Some x) (Some y) None ix iy iz = whole-third _ _ _ (is-text rt vt t iz see_t)
    at (Some x) (Some y) (Some z) ix iy iz = absurd (none x y z ix iy iz)
