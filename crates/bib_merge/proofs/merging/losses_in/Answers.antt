use Rattle.std.proofs.Common.{sym, ◌∙◌}
use Rattle.std.proofs.lemmas.Bool.{false≢true}
use Rattle.std.proofs.lemmas.Result.{err_from_is_err_and}
use Rattle.bib_merge.specs.declared.fault.MergeFault.TheVariants.{WouldMerge}
use Rattle.bib_merge.specs.Merges.{RefusesText, IsOrMemory}
use Rattle.bib_merge.proofs.merging.losses_in.Goals as goal

pub returns-clause-items : goal.returns-clause-items
returns-clause-items c rm reads_m ro rt so st = (c.in_ok-has_items.ensures rm reads_m ro rt so st).0 c.if-not-branch.false

pub returns-in_err-has_items-clause-fault : goal.returns-in_err-has_items-clause-fault
returns-in_err-has_items-clause-fault c =
    let p = err_from_is_err_and c.from_residual.result c.from_residual.ensures.1 in
    rw (p.1, p.2) IsOrMemory.no_memory

pub returns-then-not-branch-clause-fault : goal.returns-then-not-branch-clause-fault
returns-then-not-branch-clause-fault c =
    let m = c.opens.ensures in
    IsOrMemory.reason WouldMerge
    (λ ro rt so st. RefusesText.other_items m.0 m.1.reads (λ same. false≢true (sym c.if-not-branch.true ∙ (c.in_ok-has_items.ensures m.0 m.1.reads ro rt so st).1 same)))

pub returns-in_err-keys-clause-fault : goal.returns-in_err-keys-clause-fault
returns-in_err-keys-clause-fault c =
    let p = err_from_is_err_and c.from_residual-in_err-keys.result c.from_residual-in_err-keys.ensures.1 in
    rw (p.1, p.2) IsOrMemory.no_memory

pub returns-in_err-uses-clause-fault : goal.returns-in_err-uses-clause-fault
returns-in_err-uses-clause-fault c =
    let p = err_from_is_err_and c.from_residual-in_err-uses.result c.from_residual-in_err-uses.ensures.1 in
    rw (p.1, p.2) IsOrMemory.no_memory
