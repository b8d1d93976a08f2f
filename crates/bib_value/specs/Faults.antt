-- The numbers of the faults of texts. (dialect)
use Rattle.std.specs.Prelude.{ℕ}
use Rattle.bib_value.specs.declared.fault.ValueFault.{ValueFault}
use Rattle.bib_value.specs.declared.fault.ValueFault.TheVariants.{TextTooLong, Memory}

-- the number of a fault of a text
abbrev pub fault_number : ValueFault → ℕ
fault_number TextTooLong = 8
fault_number Memory = 10
