-- The walk over the items of a file.
use Rattle.std.proofs.Common.{◌≡◌, ℕ, zero, suc, ◌+◌, ◌<◌, ◌≤◌, List, [], ◌∷◌, ◌++◌, Some, slice_get, length, drop, refl, sym, ◌∙◌, ap, subst, append_assoc, append-nil, not-suc-le-zero, le_of_suc-le-suc}
use Rattle.std.specs.List.{flat_map}
use Rattle.std.proofs.lemmas.List.{drop_all}
use Rattle.bib_spec.specs.Text.{Text}
use Rattle.bib_spec.specs.Reading.{Item, Reading}
use Rattle.bib_spec.specs.Texts.{months, macros_at}
use Rattle.merge_spec.specs.Units.{Spaced, units_in, units_from, text_units, spaced_of}
use Rattle.bib_units.specs.declared.unit_view.UnitView.{UnitView}
use Rattle.bib_units.specs.Comments.{comment_bytes, comments_of}
use Rattle.bib_units.specs.UnitsSeen.{AreUnits}
use Rattle.bib_units.proofs.CommentsGathered.{drop-next}
use Rattle.bib_units.proofs.UnitsAdded.{macros-next}

-- before item n the rest of the comments is that of the items from there on, and the units so far, with those of these items, are all
pub record IsWalkedTo (r : Reading) (n : ℕ) (rest : Text) (views : List UnitView) : Type 0 where
  pub rest_is : rest ≡ flat_map comment_bytes (drop n r.items)
  pub before : List Spaced
  pub all : before ++ units_from (macros_at months r.items n) (drop n r.items) ≡ spaced_of r
  pub are : AreUnits r views before

pub walked-first : (r : Reading) (rest : Text) (views : List UnitView) → rest ≡ comments_of r → AreUnits r views (text_units months r.front) → IsWalkedTo r 0 rest views
walked-first r rest views rest_is are = record { rest_is = rest_is; before = text_units months r.front; all = refl; are = are }

pub walked-next : (r : Reading) (n : ℕ) (rest after : Text) (old new : List UnitView) (i : Item) → slice_get r.items n ≡ Some i → (is : IsWalkedTo r n rest old) → after ≡ flat_map comment_bytes (drop (n + 1) r.items) →
    AreUnits r new (is.before ++ units_in (macros_at months r.items n) i.tree i.trail) → IsWalkedTo r (n + 1) after new
walked-next r n rest after old new i at is after_is are = record {
  rest_is = after_is;
  before = is.before ++ units_in (macros_at months r.items n) i.tree i.trail;
  all = append_assoc is.before (units_in (macros_at months r.items n) i.tree i.trail) (units_from (macros_at months r.items (n + 1)) (drop (n + 1) r.items))
      ∙ ap (λ m. is.before ++ (units_in (macros_at months r.items n) i.tree i.trail ++ units_from m (drop (n + 1) r.items))) (macros-next months r.items n i at)
      ∙ ap (λ is'. is.before ++ units_from (macros_at months r.items n) is') (sym (drop-next r.items n i at))
      ∙ is.all;
  are = are;
}

pub walked-all : (r : Reading) (n : ℕ) (rest : Text) (views : List UnitView) → length r.items ≤ n → IsWalkedTo r n rest views → AreUnits r views (spaced_of r)
walked-all r n rest views past is =
    subst (AreUnits r views) (sym (append-nil is.before) ∙ ap (λ is'. is.before ++ units_from (macros_at months r.items n) is') (sym (drop_all n r.items past)) ∙ is.all) is.are

pub slice_get-within : {X : Type 0} (xs : List X) (n : ℕ) → n < length xs → (x : X) × (slice_get xs n ≡ Some x)
slice_get-within [] n lt = absurd (not-suc-le-zero lt)
slice_get-within (x ∷ xs) zero lt = (x, refl)
slice_get-within (x ∷ xs) (suc n) lt = slice_get-within xs n (le_of_suc-le-suc lt)
