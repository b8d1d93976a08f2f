-- Faults as they are reported, and why they are not.
use Rattle.std.specs.Prelude.{ℕ, ◌<◌, ◌≤◌, length}
use Rattle.bib_spec.specs.Bytes.{file_limit}
use Rattle.bib_spec.specs.Text.{Text}
use Rattle.bib_spec.specs.Fault.{fault_number}
use Rattle.bib_scan.specs.declared.fault.ReadFault.{ReadFault}
use Rattle.bib_faults.specs.GoingOn.{Fault}

-- a fault as it is reported: the number of its kind, and its place
abbrev pub told : Fault → ReadFault
told fault = record { kind = fault_number fault.kind; place = fault.place }

-- Why the faults of a file are not listed, as a number and a place: the file is too long, or memory ran out.
pub data IsUnlisted (bytes : Text) : ℕ → ℕ → Type 0 where
  too_long : file_limit < length bytes → IsUnlisted bytes 9 file_limit
  no_memory : length bytes ≤ file_limit → IsUnlisted bytes 10 0
