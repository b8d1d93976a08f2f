-- Units that are put at places one after another, by their numbers.
use Rattle.std.specs.Prelude.{ℕ, ◌≡◌, ◌+◌, ◌<◌, ◌≤◌, ◌==◌, Bool, true, false, List, length, map, Option, None, Some, slice_get, count_by, cond}
use Rattle.std.specs.List.{list_all}
use Rattle.std.specs.Option.{option_map_or}
use Rattle.merge_spec.specs.Units.{Unit, Label, label_of, same_label}
use Rattle.merge_spec.specs.Merged.{Place, is_number, is_settled, labels_left}

-- the unit with this number has the label
abbrev pub has_label : List Unit → Label → ℕ → Bool
has_label units label n = option_map_or (λ u. same_label label (label_of u)) (slice_get units n) false

-- the new list has the numbers of the old one, except for this one, which it has once less
abbrev pub Loses : ℕ → List ℕ → List ℕ → Type 0
Loses n old new = (test : ℕ → Bool) → count_by test old ≡ cond (test n) 1 0 + count_by test new

-- the number was taken away; or there is none, and nothing was
abbrev pub Goes : Option ℕ → List ℕ → List ℕ → Type 0
Goes None old new = new ≡ old
Goes (Some n) old new = Loses n old new

-- the number is that of a unit with this label; or there is none, and no unit with one of these numbers has the label
abbrev pub IsLabelled : List Unit → Label → Option ℕ → List ℕ → Type 0
IsLabelled units label None numbers = count_by (has_label units label) numbers ≡ 0
IsLabelled units label (Some n) numbers = has_label units label n ≡ true

-- the number of a unit with this label was taken away; or there is none, and no unit with one of the numbers has the label
pub record IsTaken (units : List Unit) (label : Label) (taken : Option ℕ) (old new : List ℕ) : Type 0 where
  pub goes : Goes taken old new
  pub labelled : IsLabelled units label taken old

-- Each number of a unit is at one place, or it is among the numbers that are left.
abbrev pub AreOnceOrLeft : ℕ → List (Option ℕ) → List ℕ → Type 0
AreOnceOrLeft count placed left = (n : ℕ) → n < count → count_by (is_number n) placed + count_by (λ m. m == n) left ≡ 1

-- However often one of the two files has a label, at most: with the units of one file that are left, what is left in the merge has the
-- label no more often.
abbrev pub AreSeldomWith : List Unit → List Unit → List Place → List Unit → List ℕ → Type 0
AreSeldomWith ours theirs places units left = (label : Label) (most : ℕ)
    → count_by (same_label label) (map label_of ours) ≤ most → count_by (same_label label) (map label_of theirs) ≤ most
    → count_by (same_label label) (labels_left ours theirs places) + count_by (has_label units label) left ≤ most

-- The places are those of a merge of three files, in which the sides gave units these labels, as far as it goes: the units with these
-- numbers are still to be put at places.
pub record AreSoFar (given : List Label) (base ours theirs : List Unit) (places : List Place) (of_base of_ours of_theirs : List ℕ) : Type 0 where
  pub base_once : AreOnceOrLeft (length base) (map (λ p. p.base) places) of_base
  pub ours_once : AreOnceOrLeft (length ours) (map (λ p. p.ours) places) of_ours
  pub theirs_once : AreOnceOrLeft (length theirs) (map (λ p. p.theirs) places) of_theirs
  pub settled : list_all (is_settled given base ours theirs) places ≡ true
  pub ours_seldom : AreSeldomWith ours theirs places ours of_ours
  pub theirs_seldom : AreSeldomWith ours theirs places theirs of_theirs
