use Rattle.bib_scan.proofs.Words.{ℕ, ◌-◌, length, sym, ap, subst, arith, length-append, name_limit, halt_of}
use Rattle.bib_scan.specs.ValueParts.{IsValueFault, no_value, no_memory}
use Rattle.bib_scan.proofs.TakenApart.{value_found}
use Rattle.bib_scan.proofs.PartsFaults.{refused_whole}
use Rattle.bib_scan.proofs.WholeValueLaws.{stops_by, failing_value, value_fault}
use Rattle.bib_scan.proofs.parts.read_value.Goals as goal

pub overflow_sub-result : goal.overflow_sub-result
overflow_sub-result c =
    let at = stops_by name_limit (omega arith) c.args.bytes.now (halt_of c.in-Err-Fault.stop) (refused_whole name_limit c.args.bytes.now (halt_of c.in-Err-Fault.stop) (rw c.in-Err-Fault.field-0-is at c.in-Err-Fault.ensures)) in
    omega (arith, ap (length {A = ℕ}) at.split, length-append at.front c.in-Err-Fault.stop.rest.now)

pub returns-in-Ok-clause-found : goal.returns-in-Ok-clause-found
returns-in-Ok-clause-found c = value_found c.args.bytes.now c.in-Ok.spans.items c.in-Ok.ensures

pub returns-in-Err-Memory-clause-fault : goal.returns-in-Err-Memory-clause-fault
returns-in-Err-Memory-clause-fault c = no_memory

pub returns-in-Err-Fault-clause-fault : goal.returns-in-Err-Fault-clause-fault
returns-in-Err-Fault-clause-fault c =
    let t = c.args.bytes.now in
    let h = halt_of c.in-Err-Fault.stop in
    let refused = refused_whole name_limit t h (rw c.in-Err-Fault.field-0-is at c.in-Err-Fault.ensures) in
    let place = length t - length h.rest in
    subst (λ (n : ℕ). IsValueFault t n place) (sym c.number.ensures) (no_value h.fault place (failing_value name_limit (omega arith) t h refused) (value_fault t h refused))
