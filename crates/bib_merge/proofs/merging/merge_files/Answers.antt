use Rattle.std.proofs.Common.{map, sym, subst, ◌∙◌}
use Rattle.std.specs.Prelude.{IfOk, IfErr}
use Rattle.std.proofs.lemmas.Result.{err_from_is_err_and, on_ok_weaker}
use Rattle.bib_spec.specs.Text.{Text}
use Rattle.bib_spec.specs.Texts.{IsOpenable}
use Rattle.bib_places.specs.ConflictsSeen.{conflict_seen}
use Rattle.bib_merge.specs.declared.merging.Merged.{Merged}
use Rattle.bib_merge.specs.Merges.{IsAlike, IsMergeOfFiles, LeavesTheOther, IsMergeFault, in_base}
use Rattle.bib_merge.proofs.SameFiles.{of_files}
use Rattle.bib_merge.proofs.merging.merge_files.Goals as goal

pub merge_base-requires-clause-alike : goal.merge_base-requires-clause-alike
merge_base-requires-clause-alike c =
    of_files (IsAlike c.compared-alike.result) _ _ _ _ _ _ (c.as_slice.ensures.value ∙ sym c.in_ok-b.ensures.opened) c.as_slice-2.ensures.value c.as_slice-3.ensures.value c.compared-alike.ensures

pub merge_base-requires-clause-base_opens : goal.merge_base-requires-clause-base_opens
merge_base-requires-clause-base_opens c = subst IsOpenable (sym c.in_ok-b.ensures.opened) c.in_ok-b.ensures.file

pub returns-clause-merged : goal.returns-clause-merged
returns-clause-merged c =
    subst (λ (f : Text). IfOk c.merge_base.result (λ (m : Merged). IsMergeOfFiles f c.args.ours.items c.args.theirs.items m.text m.keys.items (map conflict_seen m.conflicts.items) m.lost.items m.uses.items))
    c.in_ok-b.ensures.opened c.merge_base.ensures.merged

pub returns-clause-left : goal.returns-clause-left
returns-clause-left c =
    subst (λ (f : Text). IfOk c.merge_base.result (λ (m : Merged). LeavesTheOther f c.args.ours.items c.args.theirs.items m.text (map conflict_seen m.conflicts.items)))
    c.in_ok-b.ensures.opened c.merge_base.ensures.left

pub returns-clause-files : goal.returns-clause-files
returns-clause-files c = on_ok_weaker c.merge_base.result (λ sides. (c.in_ok-b.ensures.file, sides.0, sides.1)) c.merge_base.ensures.files

pub returns-clause-fault : goal.returns-clause-fault
returns-clause-fault c = subst (λ (f : Text). IfErr c.merge_base.result (IsMergeFault f c.args.ours.items c.args.theirs.items)) c.in_ok-b.ensures.opened c.merge_base.ensures.fault

pub returns-in_err-b-clause-fault : goal.returns-in_err-b-clause-fault
returns-in_err-b-clause-fault c =
    let p = err_from_is_err_and c.from_residual.result c.from_residual.ensures.1 in
    rw (p.1, p.2) (in_base c.in_err-b.ensures.fault)
