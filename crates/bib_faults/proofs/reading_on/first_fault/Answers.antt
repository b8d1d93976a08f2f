use Rattle.std.proofs.Common.{sym, ◌∙◌}
use Rattle.bib_faults.proofs.ReadingSteps.{first_of}
use Rattle.bib_faults.proofs.reading_on.first_fault.Goals as goal

pub returns-clause-first : goal.returns-clause-first
returns-clause-first c = first_of c.args.text.now c.in-Err.fault c.requires (sym c.is_memory.ensures ∙ c.if-is_memory.false) c.in-Err.ensures.fault
