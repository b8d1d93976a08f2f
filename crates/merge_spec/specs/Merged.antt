-- The merge of two files that come from a common one.
use Rattle.std.specs.Prelude.{ℕ, Bool, true, false, ◌&&◌, ◌||◌, ◌==◌, nat_le, List, [], ◌∷◌, ◌++◌, length, map, filter_map, Option, Some, None, option_and_then, slice_get, count_by, codes, if◌then◌else◌}
use Rattle.std.specs.List.{flat_map, list_all, list_any, range_with_len}
use Rattle.std.specs.Option.{option_map_or}
use Rattle.bib_spec.specs.Bytes.{line_feed}
use Rattle.bib_spec.specs.Text.{Text, is_space}
use Rattle.bib_spec.specs.Tree.{Row, EntryTree, tree_bytes}
use Rattle.merge_spec.specs.Units.{Unit, unit_bytes, Label, label_of, same_label}
use Rattle.merge_spec.specs.ThreeWay.{Outcome, Ours, Theirs, Mixed, Gone, Both, entry_of, entry_like, are_both, may_become}

-- One place of a merge: the numbers of the units that meet there, one of each file at most, what becomes of them, and the white
-- space after it.
pub record Place : Type 0 where
  pub base : Option ℕ
  pub ours : Option ℕ
  pub theirs : Option ℕ
  pub outcome : Outcome
  pub space : Text

-- the unit with this number, if there is a number
abbrev pub unit_at : List Unit → Option ℕ → Option Unit
unit_at units number = option_and_then (slice_get units) number

-- ---- bytes

-- a version of a unit in conflict: its bytes and a line feed, or nothing
abbrev pub version : Option Unit → Text
version u = option_map_or (λ u. unit_bytes u ++ line_feed ∷ []) u []

-- two versions between markers
abbrev pub conflict_bytes : Option Unit → Option Unit → Text
conflict_bytes o t = codes "<<<<<<< ours\n" ++ version o ++ codes "=======\n" ++ version t ++ codes ">>>>>>> theirs"

-- the bytes of our entry with this type, key, white space after the key, and rows
abbrev pub mixed_bytes : Option Unit → Text → Text → Text → List Row → Text
mixed_bytes o kind key space rows = option_map_or (λ e. tree_bytes (EntryTree (entry_like e.1 kind key space rows))) (entry_of o) []

-- the bytes of what became of a unit, and of the white space after it
abbrev pub outcome_bytes : Option Unit → Option Unit → Text → Outcome → Text
outcome_bytes o t space Ours = option_map_or unit_bytes o [] ++ space
outcome_bytes o t space Theirs = option_map_or unit_bytes t [] ++ space
outcome_bytes o t space (Mixed kind key within rows) = mixed_bytes o kind key within rows ++ space
outcome_bytes o t space Gone = []
outcome_bytes o t space Both = conflict_bytes o t ++ space

-- the bytes of a place
abbrev pub place_bytes : List Unit → List Unit → Place → Text
place_bytes ours theirs p = outcome_bytes (unit_at ours p.ours) (unit_at theirs p.theirs) p.space p.outcome

-- the bytes of a merge that begins with this white space
abbrev pub merged_bytes : List Unit → List Unit → Text → List Place → Text
merged_bytes ours theirs space places = space ++ flat_map (place_bytes ours theirs) places

-- ---- what holds of a merge

-- the number is this one
abbrev pub is_number : ℕ → Option ℕ → Bool
is_number n None = false
is_number n (Some m) = m == n

-- each of this many numbers is there exactly once
abbrev pub are_once : ℕ → List (Option ℕ) → Bool
are_once count numbers = list_all (λ n. count_by (is_number n) numbers == 1) (range_with_len 0 count)

-- the units that are there have one label
abbrev pub share_label : Option Unit → Option Unit → Bool
share_label (Some a) (Some b) = same_label (label_of a) (label_of b)
share_label None b = true
share_label (Some a) None = true

-- the unit has one of these labels
abbrev pub is_among : List Label → Unit → Bool
is_among labels u = list_any (same_label (label_of u)) labels

-- one side took away a unit of the common file, and to the form of it that the other side has, that side gave its name
abbrev pub is_removed_and_named : List Label → Option Unit → Option Unit → Option Unit → Bool
is_removed_and_named given (Some b) (Some o) None = is_among given o
is_removed_and_named given (Some b) None (Some t) = is_among given t
is_removed_and_named given (Some b) (Some o) (Some t) = false
is_removed_and_named given (Some b) None None = false
is_removed_and_named given None o t = false

-- What may become of a unit, where the sides gave units these labels: a unit to which one side gave its name does not go because the
-- other side took it away, but both versions of it stay.
abbrev pub may_come : List Label → Option Unit → Option Unit → Option Unit → Outcome → Bool
may_come given b o t outcome = if is_removed_and_named given b o t then are_both outcome else may_become b o t outcome

-- the units of a place have one label, and may become what becomes of them; only white space follows
abbrev pub is_settled : List Label → List Unit → List Unit → List Unit → Place → Bool
is_settled given base ours theirs p =
    let b = unit_at base p.base in
    let o = unit_at ours p.ours in
    let t = unit_at theirs p.theirs in
    share_label b o && share_label b t && share_label o t && may_come given b o t p.outcome && list_all is_space p.space

-- the label of what is at the place once, or nothing
abbrev pub label_left : Option Unit → Option Unit → Outcome → Option Label
label_left o t Ours = option_map_or (λ u. Some (label_of u)) o None
label_left o t Theirs = option_map_or (λ u. Some (label_of u)) t None
label_left o t (Mixed kind key space rows) = option_map_or (λ u. Some (label_of u)) o None
label_left o t Gone = None
label_left o t Both = option_map_or (λ u. Some (label_of u)) o (option_map_or (λ u. Some (label_of u)) t None)

-- the labels of what is left in a merge, in order
abbrev pub labels_left : List Unit → List Unit → List Place → List Label
labels_left ours theirs places = filter_map (λ p. label_left (unit_at ours p.ours) (unit_at theirs p.theirs) p.outcome) places

-- a label is in a merge no more often than in one of the two files
abbrev pub is_seldom : List Label → List Label → List Label → Label → Bool
is_seldom ours theirs merged label =
    nat_le (count_by (same_label label) merged) (count_by (same_label label) ours)
    || nat_le (count_by (same_label label) merged) (count_by (same_label label) theirs)

-- no unit is in a merge twice because each side has added it
abbrev pub are_seldom : List Unit → List Unit → List Place → Bool
are_seldom ours theirs places =
    let merged = labels_left ours theirs places in
    list_all (is_seldom (map label_of ours) (map label_of theirs) merged) merged

-- The places are a merge of three files, in which the sides gave units these labels: each unit of each file is at one place, what
-- becomes of it is what may, and no unit is there twice because each side has added it.
abbrev pub is_merge : List Label → List Unit → List Unit → List Unit → List Place → Bool
is_merge given base ours theirs places =
    are_once (length base) (map (λ p. p.base) places) && are_once (length ours) (map (λ p. p.ours) places)
    && are_once (length theirs) (map (λ p. p.theirs) places)
    && list_all (is_settled given base ours theirs) places && are_seldom ours theirs places
