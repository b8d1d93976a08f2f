-- The numbers of faults.
use Rattle.std.specs.Prelude.{ℕ}
use Rattle.bib_diff.specs.declared.fault.DiffFault.{DiffFault}
use Rattle.bib_diff.specs.declared.fault.DiffFault.TheVariants.{Old, New, NoScript, Memory}

-- the number that users see of a fault
abbrev pub fault_number : DiffFault → ℕ
fault_number (Old fault) = fault.kind
fault_number (New fault) = fault.kind
fault_number (NoScript key) = 46
fault_number Memory = 10
