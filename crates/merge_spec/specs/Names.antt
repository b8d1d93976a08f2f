-- Whether names mean in a merge what they mean on the side that they come from.
use Rattle.std.specs.Prelude.{ℕ, Bool, true, ◌||◌, ◌==◌, List, Option, Some, None, option_map, option_and_then, bytes_eq, count_by, if◌then◌else◌}
use Rattle.std.specs.List.{list_any}
use Rattle.bib_spec.specs.Text.{Text, folded}
use Rattle.bib_spec.specs.Records.{crossref}
use Rattle.merge_spec.specs.Units.{Unit, EntryLabel, MacroLabel, label_of, same_label}
use Rattle.merge_spec.specs.ThreeWay.{alike, said_in, entry_of}

-- what the crossref of an entry says, in its file
abbrev pub crossref_of : Unit → Option Text
crossref_of u = option_and_then (λ e. option_map (λ said. said.text) (said_in e.0 e.1.rows crossref)) (entry_of (Some u))

-- the key of an entry of this file that the crossref of a unit names, folded, if there is one
abbrev pub parent_key : List Unit → Unit → Option Text
parent_key units u =
    option_and_then (λ key. if list_any (λ other. same_label (label_of other) (EntryLabel (folded key))) units then Some (folded key) else None) (crossref_of u)

-- A crossref that names this entry on its side may name that one in the merge: the same, or any if it names none on its side, since
-- an entry that the other side added may then be found.
abbrev pub may_name : Option Text → Option Text → Bool
may_name None here = true
may_name (Some there) here = alike bytes_eq (Some there) here

-- how many of these units define the macro
abbrev pub defined_in : Text → List Unit → ℕ
defined_in name units = count_by (λ u. same_label (label_of u) (MacroLabel (folded name))) units

-- A use with so many definitions before it on its side may have so many in the merge: as many, or any if it has none on its side.
abbrev pub may_use : ℕ → ℕ → Bool
may_use there here = there == 0 || there == here
