use Rattle.std.proofs.Common.{ℕ, ◌==◌, ap, sym, ◌∙◌, subst}
use Rattle.std.proofs.lemmas.Bool.{false≢true}
use Rattle.bib_merge.specs.Merges.{IsOpeningFault}
use Rattle.bib_merge.proofs.merging.opened.Goals as goal

pub returns-then-is_memory-clause-fault : goal.returns-then-is_memory-clause-fault
returns-then-is_memory-clause-fault c = IsOpeningFault.no_memory

pub returns-else-is_memory-clause-fault : goal.returns-else-is_memory-clause-fault
returns-else-is_memory-clause-fault c =
    subst (IsOpeningFault c.args.file c.args.bytes.items) (sym c.fault_in.ensures)
    (IsOpeningFault.unopened c.in-Err.fault (λ e. false≢true (sym c.if-is_memory.false ∙ c.is_memory.ensures ∙ ap (λ (n : ℕ). n == 10) e)) c.in-Err.ensures.fault)
