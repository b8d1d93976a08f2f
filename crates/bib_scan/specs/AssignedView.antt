-- An assignment as the code reads it, as a value of the definitions.
use Rattle.bib_scan.specs.LeftToRight as definitions
use Rattle.bib_scan.specs.declared.row.Assigned.{Assigned}

-- the assignment that the code read, as the definitions have it
abbrev pub assigned_view : Assigned → definitions.Assigned
assigned_view a = record { name = a.name.now; value = a.value.now; value_left = a.value_left }
