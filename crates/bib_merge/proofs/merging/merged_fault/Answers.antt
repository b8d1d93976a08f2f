use Rattle.std.proofs.Common.{ℕ, ◌==◌, arith, ap, sym, ◌∙◌}
use Rattle.std.proofs.lemmas.Bool.{false≢true}
use Rattle.bib_merge.specs.Merges.{IsOrMemory}
use Rattle.bib_merge.specs.declared.fault.MergeFault.TheVariants.{TextTooLong, FileTooLong, WouldMerge}
use Rattle.bib_merge.proofs.RefusedTexts.{fault_8, fault_9, other_fault}
use Rattle.bib_merge.proofs.merging.merged_fault.Goals as goal

pub returns-then-fault-eq-RAW_TOO_LONG : goal.returns-then-fault-eq-RAW_TOO_LONG
returns-then-fault-eq-RAW_TOO_LONG c text why = let test = c.if-fault-eq-RAW_TOO_LONG.true in IsOrMemory.reason TextTooLong (fault_8 text c.args.fault.kind c.args.fault.place (omega (arith, test)) why)

pub returns-then-fault : goal.returns-then-fault
returns-then-fault c text why = let test = c.if-fault.true in IsOrMemory.reason FileTooLong (fault_9 text c.args.fault.kind c.args.fault.place (omega (arith, test)) why)

pub returns-then-is_memory : goal.returns-then-is_memory
returns-then-is_memory c text why = IsOrMemory.no_memory

pub returns : goal.returns
returns c text why =
    let not_8 = c.if-fault-eq-RAW_TOO_LONG.false in
    let not_9 = c.if-fault.false in
    IsOrMemory.reason WouldMerge (other_fault text c.args.fault.kind c.args.fault.place (λ is. omega (arith, not_8, is)) (λ is. omega (arith, not_9, is)) (λ e. false≢true (sym c.if-is_memory.false ∙ c.is_memory.ensures ∙ ap (λ (n : ℕ). n == 10) e)) why)
