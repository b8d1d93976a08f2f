-- The faults of calls: their numbers and places. (dialect)
use Rattle.std.specs.Prelude.{ℕ, Option, None}
use Rattle.bib_journal.specs.Faults.{fault_number, fault_place}
use Rattle.bib_journal.specs.declared.fault.SessionFault.TheVariants.{Memory}
use Rattle.bib_state.specs.declared.fault.CallFault.{CallFault}
use Rattle.bib_state.specs.declared.fault.CallFault.TheVariants.{Misuse, NoSuchEntry, NotUtf8, BadScript, Session}

-- the number under which docs/FAULTS.md explains the fault; a call that is not allowed has a number of its own
abbrev pub call_number : CallFault → ℕ
call_number Misuse = 1000
call_number NoSuchEntry = 11
call_number NotUtf8 = 24
call_number BadScript = 71
call_number (Session fault) = fault_number fault

-- where the file or the journal cannot be read; nothing else has a place
abbrev pub call_place : CallFault → Option ℕ
call_place (Session fault) = fault_place fault
call_place other = None

-- memory ran out
abbrev pub out_of_memory : CallFault
out_of_memory = Session Memory
