use Rattle.std.proofs.lemmas.Result.{err_from_is_err_and}
use Rattle.bib_merge.specs.Merges.{IsOrMemory}
use Rattle.bib_merge.proofs.merging.merge_over.Goals as goal

pub returns-in_err-comments-clause-fault : goal.returns-in_err-comments-clause-fault
returns-in_err-comments-clause-fault c =
    let p = err_from_is_err_and c.from_residual.result c.from_residual.ensures.1 in
    rw (p.1, p.2) IsOrMemory.no_memory
