-- Values of the code, as values of the definitions.
use Rattle.std.specs.Prelude.{◌≡◌, ⊤, Result, Ok, Err}
use Rattle.bib_scan.specs.declared.fault.Fault.{Fault}
use Rattle.bib_scan.specs.declared.fault.Fault.TheVariants as code
use Rattle.bib_scan.specs.declared.fault.Stop.{Stop}
use Rattle.bib_scan.specs.declared.fault.Refusal.{Refusal}
use Rattle.bib_scan.specs.declared.fault.Refusal.TheVariants as refusals
use Rattle.bib_spec.specs.Fault as faults
use Rattle.bib_scan.specs.LeftToRight.{Halt, stop}

-- the fault of the definitions with the same name as this fault of the code
abbrev pub fault_of : Fault → faults.ReadingFault
fault_of code.Unended = faults.Unended
fault_of code.ExpectedName = faults.ExpectedName
fault_of code.ExpectedEquals = faults.ExpectedEquals
fault_of code.ExpectedCommaOrClose = faults.ExpectedCommaOrClose
fault_of code.ExpectedValue = faults.ExpectedValue
fault_of code.UnbalancedBrace = faults.UnbalancedBrace
fault_of code.KeyTooLong = faults.KeyTooLong

-- where the code stopped, as the definitions say it: the fault, and the text from its place on
abbrev pub halt_of : Stop → Halt
halt_of s = stop (fault_of s.fault) s.rest.now

-- What a function returned, under this view, is what reading from left to right gives.
abbrev pub Gives : {X Y : Type 0} → (X → Y) → Result X Stop → Result Y Halt → Type 0
Gives view (Ok x) read = read ≡ Ok (view x)
Gives view (Err s) read = read ≡ Err (halt_of s)

-- reading from left to right stops in the same way, or the code ran out of memory, which says nothing
abbrev pub Refuses : {Y : Type 0} → Refusal → Result Y Halt → Type 0
Refuses refusals.Memory read = ⊤
Refuses (refusals.Fault s) read = read ≡ Err (halt_of s)

-- What a function returned, under this view, is what reading from left to right gives, unless memory ran out.
abbrev pub GivesUnlessMemory : {X Y : Type 0} → (X → Y) → Result X Refusal → Result Y Halt → Type 0
GivesUnlessMemory view (Ok x) read = read ≡ Ok (view x)
GivesUnlessMemory view (Err e) read = Refuses e read
