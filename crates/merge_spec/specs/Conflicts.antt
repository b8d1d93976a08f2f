-- What a merge tells of the units of which both versions stay.
use Rattle.std.specs.Prelude.{Bool, true, false, not, ◌&&◌, ◌||◌, List, [], ◌∷◌, ◌++◌, map, filter, find, Option, Some, None, is_none, if◌then◌else◌}
use Rattle.std.specs.List.{flat_map}
use Rattle.std.specs.Option.{option_map_or}
use Rattle.bib_spec.specs.Text.{Text, folded, same}
use Rattle.bib_spec.specs.Tree.{Row, Entry}
use Rattle.bib_spec.specs.Texts.{Macros}
use Rattle.merge_spec.specs.Units.{Unit, Label, BytesLabel, label_of}
use Rattle.merge_spec.specs.ThreeWay.{Outcome, Ours, Theirs, Mixed, Gone, Both, Said, is_row, said_in, names_of, are_single, alike, fields_agree, entry_of}
use Rattle.merge_spec.specs.Merged.{Place, unit_at}

-- ---- what of an entry is in conflict

-- what both sides changed: the type, the field with this name (folded), or the unit as a whole
pub data ChangedPart : Type 0 where
  Whole TheType : ChangedPart
  TheField : Text → ChangedPart

-- each side has changed the field, and the two do not agree: no two of the three forms of it do; an absent field is a form, too
abbrev pub is_field_in_conflict : Option Said → Option Said → Option Said → Bool
is_field_in_conflict b o t = not (alike fields_agree b t || alike fields_agree o t || alike fields_agree b o)

-- each side has changed the type, and the two do not agree
abbrev pub is_type_in_conflict : Text → Text → Text → Bool
is_type_in_conflict b o t = not (same b t || same o t || same b o)

-- the entry does not have the field
abbrev pub is_lacking : List Row → Text → Bool
is_lacking rows name = is_none (find (is_row name) rows)

-- the names of the fields of either side: ours in our order, and then in their order those that we lack
abbrev pub names_of_either : List Row → List Row → List Text
names_of_either o t = names_of o ++ filter (is_lacking o) (names_of t)

-- the field with this name is in conflict
abbrev pub is_in_conflict : Macros → Entry → Macros → Entry → Macros → Entry → Text → Bool
is_in_conflict mb b mo o mt t name = is_field_in_conflict (said_in mb b.rows name) (said_in mo o.rows name) (said_in mt t.rows name)

-- the fields in conflict, in the order of their names
abbrev pub fields_in_conflict : Macros → Entry → Macros → Entry → Macros → Entry → List ChangedPart
fields_in_conflict mb b mo o mt t = map (λ name. TheField (folded name)) (filter (is_in_conflict mb b mo o mt t) (names_of_either o.rows t.rows))

-- the type, if it is in conflict
abbrev pub type_in_conflict : Entry → Entry → Entry → List ChangedPart
type_in_conflict b o t = if is_type_in_conflict b.opening.head.type_name o.opening.head.type_name t.opening.head.type_name then TheType ∷ [] else []

-- these parts, or the unit as a whole if there are none
abbrev pub or_whole : List ChangedPart → List ChangedPart
or_whole [] = Whole ∷ []
or_whole (part ∷ parts) = part ∷ parts

-- each field of the entry is there once
abbrev pub is_single : Entry → Bool
is_single e = are_single (names_of e.rows)

-- What of an entry is in conflict, by its form in the common file, in ours and in theirs: the type, and then fields. It is the whole
-- entry if a field is there twice in one of the three, and if neither the type nor a field is in conflict. (dialect)
abbrev pub parts_of_entries : Macros → Entry → Macros → Entry → Macros → Entry → List ChangedPart
parts_of_entries mb b mo o mt t =
    if is_single b && is_single o && is_single t then or_whole (type_in_conflict b o t ++ fields_in_conflict mb b mo o mt t) else Whole ∷ []

-- the same of three units: of entries, parts may be in conflict
abbrev pub parts_in_conflict : Option (Macros × Entry) → Option (Macros × Entry) → Option (Macros × Entry) → List ChangedPart
parts_in_conflict (Some b) (Some o) (Some t) = parts_of_entries b.0 b.1 o.0 o.1 t.0 t.1
parts_in_conflict None o t = Whole ∷ []
parts_in_conflict (Some b) None t = Whole ∷ []
parts_in_conflict (Some b) (Some o) None = Whole ∷ []

-- ---- conflicts

-- how two sides came into conflict over a unit
pub data Change : Type 0 where
  -- each changed these parts of what the common file has
  Changed : List ChangedPart → Change
  -- each added it
  BothAdded : Change
  -- one took it away, and the other changed it
  RemovedByOurs RemovedByTheirs : Change

-- a conflict over the unit with this label
pub record Conflict : Type 0 where
  pub change : Change
  pub label : Label

-- how the sides came into conflict over a unit, given its form in the common file, in ours and in theirs
abbrev pub change_of : Option Unit → Option Unit → Option Unit → Change
change_of b None t = RemovedByOurs
change_of b (Some o) None = RemovedByTheirs
change_of None (Some o) (Some t) = BothAdded
change_of (Some b) (Some o) (Some t) = Changed (parts_in_conflict (entry_of (Some b)) (entry_of (Some o)) (entry_of (Some t)))

-- the label of our form of a unit, or of theirs if we took it away
abbrev pub label_of_either : Option Unit → Option Unit → Label
label_of_either o t = option_map_or label_of o (option_map_or label_of t (BytesLabel []))

-- the conflict over a unit, if both versions of it stay
abbrev pub conflict_over : Option Unit → Option Unit → Option Unit → Outcome → List Conflict
conflict_over b o t Ours = []
conflict_over b o t Theirs = []
conflict_over b o t (Mixed kind key space rows) = []
conflict_over b o t Gone = []
conflict_over b o t Both = record { change = change_of b o t; label = label_of_either o t } ∷ []

-- the conflict at a place, if there is one
abbrev pub conflict_at : List Unit → List Unit → List Unit → Place → List Conflict
conflict_at base ours theirs p = conflict_over (unit_at base p.base) (unit_at ours p.ours) (unit_at theirs p.theirs) p.outcome

-- the conflicts of a merge, in the order of the merged file
abbrev pub conflicts_of : List Unit → List Unit → List Unit → List Place → List Conflict
conflicts_of base ours theirs places = flat_map (conflict_at base ours theirs) places

-- there is a conflict
abbrev pub is_any : List Conflict → Bool
is_any [] = false
is_any (conflict ∷ conflicts) = true
