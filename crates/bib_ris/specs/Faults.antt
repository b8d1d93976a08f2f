-- The numbers and places of faults.
use Rattle.std.specs.Prelude.{ℕ, Option, Some, None}
use Rattle.ris_text.specs.Faults as text
use Rattle.ris_text.specs.declared.fault.RisFault.{RisFault}
use Rattle.ris_text.specs.declared.fault.RisFault.TheVariants as text_fault
use Rattle.ris_format.specs.declared.fault.MappingFault.{MappingFault}
use Rattle.ris_format.specs.declared.fault.MappingFault.TheVariants as mapping_fault
use Rattle.bib_ris.specs.declared.fault.ImportFault.{ImportFault}
use Rattle.bib_ris.specs.declared.fault.ImportFault.TheVariants.{Unread, UnbalancedText, SkippedLine, Memory}

-- the number that users see of a fault
abbrev pub fault_number : ImportFault → ℕ
fault_number (Unread fault) = text.fault_number fault
fault_number UnbalancedText = 64
fault_number (SkippedLine place) = 65
fault_number Memory = 10

-- the place in a text that is not read, or of which a line is skipped; no other fault has a place
abbrev pub fault_place : ImportFault → Option ℕ
fault_place (Unread fault) = text.fault_place fault
fault_place UnbalancedText = None
fault_place (SkippedLine place) = Some place
fault_place Memory = None

-- a fault of reading, as a fault of an import
abbrev pub unread : RisFault → ImportFault
unread text_fault.Memory = Memory
unread (text_fault.NoStart place) = Unread (text_fault.NoStart place)
unread (text_fault.NoEnd place) = Unread (text_fault.NoEnd place)
unread (text_fault.EmptyType place) = Unread (text_fault.EmptyType place)

-- a fault of mapping, as a fault of an import
abbrev pub unmapped : MappingFault → ImportFault
unmapped mapping_fault.UnbalancedText = UnbalancedText
unmapped mapping_fault.Memory = Memory
