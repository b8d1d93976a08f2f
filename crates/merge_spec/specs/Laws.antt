-- Laws of merges. Each is proved.
use Rattle.std.specs.Prelude.{ℕ, ◌≡◌, ◌<◌, Bool, true, ◌&&◌, ◌||◌, List, ◌++◌, length, Option, is_none}
use Rattle.std.specs.List.{flat_map, list_any}
use Rattle.bib_spec.specs.Reading.{Reading, bytes_of}
use Rattle.merge_spec.specs.Units.{Unit, Label, spaced_bytes, first_space, spaced_of}
use Rattle.merge_spec.specs.ThreeWay.{Outcome, Ours, Theirs, Mixed, Gone, Both, are_both, is_left, is_unchanged}
use Rattle.merge_spec.specs.Merged.{Place, unit_at, is_number, is_merge}
use Rattle.merge_spec.specs.Conflicts.{conflicts_of, is_any}

-- the white space before the first unit, and the units with the white space after each, are the file
abbrev pub units_are_the_file : Type 0
units_are_the_file = (db : Reading) → first_space db ++ flat_map spaced_bytes (spaced_of db) ≡ bytes_of db

-- Our unit is kept, whole or by its fields, or both versions are; or theirs is taken and we left what the common file has; or it
-- goes, and theirs took it away and we left it.
abbrev pub is_ours_kept : Option Unit → Option Unit → Option Unit → Outcome → Bool
is_ours_kept b o t Ours = true
is_ours_kept b o t (Mixed kind key space rows) = true
is_ours_kept b o t Both = true
is_ours_kept b o t Theirs = is_left b o
is_ours_kept b o t Gone = is_none t && is_unchanged b o

-- Their unit is kept, whole or by its fields, or both versions are; or ours is taken, and they left the unit or say what we say; or
-- it goes, and ours took it away and they left it.
abbrev pub is_theirs_kept : Option Unit → Option Unit → Option Unit → Outcome → Bool
is_theirs_kept b o t Theirs = true
is_theirs_kept b o t (Mixed kind key space rows) = true
is_theirs_kept b o t Both = true
is_theirs_kept b o t Ours = is_unchanged b t || is_unchanged o t
is_theirs_kept b o t Gone = is_none o && is_unchanged b t

-- no unit of ours is lost in a merge
abbrev pub nothing_of_ours_is_lost : Type 0
nothing_of_ours_is_lost = (given : List Label) (base ours theirs : List Unit) (places : List Place) → is_merge given base ours theirs places ≡ true →
    (n : ℕ) → n < length ours →
    list_any (λ p. is_number n p.ours && is_ours_kept (unit_at base p.base) (unit_at ours p.ours) (unit_at theirs p.theirs) p.outcome) places ≡ true

-- no unit of theirs is lost in a merge
abbrev pub nothing_of_theirs_is_lost : Type 0
nothing_of_theirs_is_lost = (given : List Label) (base ours theirs : List Unit) (places : List Place) → is_merge given base ours theirs places ≡ true →
    (n : ℕ) → n < length theirs →
    list_any (λ p. is_number n p.theirs && is_theirs_kept (unit_at base p.base) (unit_at ours p.ours) (unit_at theirs p.theirs) p.outcome) places ≡ true

-- there is a conflict exactly if both versions of some unit stay: without one, no marker is written
abbrev pub conflicts_are_all_told : Type 0
conflicts_are_all_told = (base ours theirs : List Unit) (places : List Place) → is_any (conflicts_of base ours theirs places) ≡ list_any (λ p. are_both p.outcome) places
