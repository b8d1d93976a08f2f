-- The faults of edits: their numbers, and the reasons of the definitions that they are. (dialect)
use Rattle.std.specs.Prelude.{ℕ, Option, Some, None}
use Rattle.std.specs.Option.{option_map_or}
use Rattle.edit_spec.specs.Edits as reason
use Rattle.edit_spec.specs.Edits.{edit_fault_number}
use Rattle.bib_edit.specs.declared.fault.EditFault.{EditFault}
use Rattle.bib_edit.specs.declared.fault.EditFault.TheVariants.{BadKey, BadName, BadValue, BadPosition, NotFound, Ambiguous, KeyInUse, NameInUse, Referred, WouldMerge, FileTooLong, TextTooLong, Memory}

-- the reason that the fault tells of, which is none where memory was refused
abbrev pub reason_of : EditFault → Option reason.EditFault
reason_of BadKey = Some reason.BadKey
reason_of BadName = Some reason.BadName
reason_of BadValue = Some reason.BadValue
reason_of BadPosition = Some reason.BadPosition
reason_of NotFound = Some reason.NotFound
reason_of Ambiguous = Some reason.Ambiguous
reason_of KeyInUse = Some reason.KeyInUse
reason_of NameInUse = Some reason.NameInUse
reason_of Referred = Some reason.Referred
reason_of WouldMerge = Some reason.WouldMerge
reason_of FileTooLong = Some reason.FileTooLong
reason_of TextTooLong = Some reason.TextTooLong
reason_of Memory = None

-- the number by which docs/FAULTS.md lists the fault; 10 is want of memory
abbrev pub fault_number : EditFault → ℕ
fault_number fault = option_map_or edit_fault_number (reason_of fault) 10
