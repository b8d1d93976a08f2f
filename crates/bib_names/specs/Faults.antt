-- The faults by number.
use Rattle.std.specs.Prelude.{ℕ}
use Rattle.bib_names.specs.declared.fault.NameFault.{NameFault}
use Rattle.bib_names.specs.declared.fault.NameFault.TheVariants.{Memory, TooManyCommas, UnbalancedName, BadTemplate}

-- the number that users see of a fault
abbrev pub number_of : NameFault → ℕ
number_of Memory = 10
number_of TooManyCommas = 21
number_of UnbalancedName = 22
number_of BadTemplate = 23
