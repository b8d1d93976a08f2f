-- The faults of sessions: their numbers and places. (dialect)
use Rattle.std.specs.Prelude.{ℕ, ◌==◌, if◌then◌else◌, Option, Some, None}
use Rattle.bib_scan.specs.declared.fault.ReadFault.{ReadFault}
use Rattle.bib_edit.specs.Faults as edit
use Rattle.bib_edit.specs.declared.fault.EditFault.{EditFault}
use Rattle.bib_edit.specs.declared.fault.EditFault.TheVariants as edit_fault
use Rattle.journal_format.specs.declared.fault.JournalFault.{JournalFault}
use Rattle.journal_format.specs.declared.fault.JournalFault.TheVariants as journal_fault
use Rattle.bib_journal.specs.declared.fault.SessionFault.{SessionFault}
use Rattle.bib_journal.specs.declared.fault.SessionFault.TheVariants.{Unopened, Refused, JournalFull, NothingToUndo, NothingToRedo, BadJournal, JournalMismatch, StepOpen, NoOpenStep, Memory}

-- the number under which docs/FAULTS.md explains the fault
abbrev pub fault_number : SessionFault → ℕ
fault_number (Unopened fault) = fault.kind
fault_number (Refused fault) = edit.fault_number fault
fault_number JournalFull = 41
fault_number NothingToUndo = 51
fault_number NothingToRedo = 52
fault_number (BadJournal place) = 53
fault_number JournalMismatch = 54
fault_number StepOpen = 55
fault_number NoOpenStep = 56
fault_number Memory = 10

-- where bytes can't be opened, or are no journal; nothing else has a place
abbrev pub fault_place : SessionFault → Option ℕ
fault_place (Unopened fault) = if fault.kind == 10 then None else Some fault.place
fault_place (BadJournal place) = Some place
fault_place other = None

-- what a refused opening is to a session
abbrev pub unopened : ReadFault → SessionFault
unopened fault = if fault.kind == 10 then Memory else Unopened fault

-- what a refused journal is to a session
abbrev pub unread : JournalFault → SessionFault
unread (journal_fault.BadJournal place) = BadJournal place
unread journal_fault.Memory = Memory

-- what a refused edit is to a session
abbrev pub refused : EditFault → SessionFault
refused edit_fault.Memory = Memory
refused edit_fault.BadKey = Refused edit_fault.BadKey
refused edit_fault.BadName = Refused edit_fault.BadName
refused edit_fault.BadValue = Refused edit_fault.BadValue
refused edit_fault.BadPosition = Refused edit_fault.BadPosition
refused edit_fault.NotFound = Refused edit_fault.NotFound
refused edit_fault.Ambiguous = Refused edit_fault.Ambiguous
refused edit_fault.KeyInUse = Refused edit_fault.KeyInUse
refused edit_fault.NameInUse = Refused edit_fault.NameInUse
refused edit_fault.Referred = Refused edit_fault.Referred
refused edit_fault.WouldMerge = Refused edit_fault.WouldMerge
refused edit_fault.FileTooLong = Refused edit_fault.FileTooLong
refused edit_fault.TextTooLong = Refused edit_fault.TextTooLong
