-- What a call says of itself. (dialect)
use Rattle.std.specs.Prelude.{ℕ, false, Option, Some, None, is_some, unwrap_or}
use Rattle.bib_state.specs.Faults.{call_number, call_place}
use Rattle.bib_state.specs.declared.fault.CallFault.{CallFault}
use Rattle.bib_state.specs.declared.performing.Turned.{Turned}
use Rattle.bib_state.specs.declared.performing.Scripted.{Scripted}
use Rattle.bib_c.specs.declared.report.Report.{Report}

-- the number and the place of the fault, if there is one; how many requests were done; and the line that was refused, or 0
abbrev pub reported : Option CallFault → ℕ → ℕ → Report
reported (Some fault) done line = record { number = call_number fault; has_place = is_some (call_place fault); place = unwrap_or (call_place fault) 0; done = done; line = line }
reported None done line = record { number = 0; has_place = false; place = 0; done = done; line = line }

-- the report of steps that were undone or redone
abbrev pub of_turned : Turned → Report
of_turned turned = reported turned.fault turned.done 0

-- the report of a script
abbrev pub of_scripted : Scripted → Report
of_scripted scripted = reported scripted.fault scripted.done scripted.line
