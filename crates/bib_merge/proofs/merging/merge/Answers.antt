use Rattle.std.proofs.Common.{map}
use Rattle.std.proofs.lemmas.Result.{err_from_is_err_and}
use Rattle.bib_spec.specs.Text.{Text}
use Rattle.bib_spec.specs.Texts.{IsOpenable}
use Rattle.bib_places.specs.ConflictsSeen.{conflict_seen}
use Rattle.bib_merge.specs.Merges.{IsMergeOfFiles, LeavesTheOther, IsOpeningFault, in_base}
use Rattle.bib_merge.proofs.SameFiles.{of_files, merge_fault_of}
use Rattle.bib_merge.proofs.merging.merge.Goals as goal

pub returns-clause-merged : goal.returns-clause-merged
returns-clause-merged c =
    let m = c.in_ok-merged.merged in
    of_files (λ (x y z : Text). IsMergeOfFiles x y z m.text m.keys.items (map conflict_seen m.conflicts.items) m.lost.items m.uses.items) _ _ _ _ _ _
    c.in_ok-base_copy.ensures.items c.in_ok-our_copy.ensures.items c.in_ok-their_copy.ensures.items c.in_ok-merged.ensures.merged

pub returns-clause-left : goal.returns-clause-left
returns-clause-left c =
    let m = c.in_ok-merged.merged in
    of_files (λ (x y z : Text). LeavesTheOther x y z m.text (map conflict_seen m.conflicts.items)) _ _ _ _ _ _
    c.in_ok-base_copy.ensures.items c.in_ok-our_copy.ensures.items c.in_ok-their_copy.ensures.items c.in_ok-merged.ensures.left

pub returns-clause-files : goal.returns-clause-files
returns-clause-files c =
    of_files (λ (x y z : Text). IsOpenable x × IsOpenable y × IsOpenable z) _ _ _ _ _ _
    c.in_ok-base_copy.ensures.items c.in_ok-our_copy.ensures.items c.in_ok-their_copy.ensures.items c.in_ok-merged.ensures.files

pub returns-in_err-base_copy-clause-fault : goal.returns-in_err-base_copy-clause-fault
returns-in_err-base_copy-clause-fault c =
    let p = err_from_is_err_and c.from_residual.result c.from_residual.ensures.1 in
    rw (p.1, p.2) (in_base IsOpeningFault.no_memory)

pub returns-in_err-our_copy-clause-fault : goal.returns-in_err-our_copy-clause-fault
returns-in_err-our_copy-clause-fault c =
    let p = err_from_is_err_and c.from_residual-in_err-our_copy.result c.from_residual-in_err-our_copy.ensures.1 in
    rw (p.1, p.2) (in_base IsOpeningFault.no_memory)

pub returns-in_err-their_copy-clause-fault : goal.returns-in_err-their_copy-clause-fault
returns-in_err-their_copy-clause-fault c =
    let p = err_from_is_err_and c.from_residual-in_err-their_copy.result c.from_residual-in_err-their_copy.ensures.1 in
    rw (p.1, p.2) (in_base IsOpeningFault.no_memory)

pub returns-in_err-merged-clause-fault : goal.returns-in_err-merged-clause-fault
returns-in_err-merged-clause-fault c =
    let p = err_from_is_err_and c.from_residual-in_err-merged.result c.from_residual-in_err-merged.ensures.1 in
    rw (p.1, p.2)
    (merge_fault_of _ _ _ _ _ _ c.in_ok-base_copy.ensures.items c.in_ok-our_copy.ensures.items c.in_ok-their_copy.ensures.items _ c.in_err-merged.ensures.fault)
