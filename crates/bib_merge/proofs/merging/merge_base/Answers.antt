use Rattle.std.proofs.Common.{map, sym, subst}
use Rattle.std.specs.Prelude.{IfOk, IfErr}
use Rattle.std.proofs.lemmas.Result.{on_ok_weaker}
use Rattle.bib_spec.specs.Text.{Text}
use Rattle.bib_spec.specs.Texts.{IsOpenable}
use Rattle.bib_places.specs.ConflictsSeen.{conflict_seen}
use Rattle.bib_merge.specs.declared.merging.Merged.{Merged}
use Rattle.bib_merge.specs.Merges.{IsAlike, IsMergeOfFiles, LeavesTheOther, IsMergeFault, in_ours}
use Rattle.bib_merge.proofs.merging.merge_base.Goals as goal

pub merge_ours-requires-clause-alike : goal.merge_ours-requires-clause-alike
merge_ours-requires-clause-alike c = subst (λ (f : Text). IsAlike c.args.alike c.args.b f c.args.theirs.items) (sym c.in-Ok.ensures.opened) c.requires.alike

pub merge_ours-requires-clause-ours_opens : goal.merge_ours-requires-clause-ours_opens
merge_ours-requires-clause-ours_opens c = subst IsOpenable (sym c.in-Ok.ensures.opened) c.in-Ok.ensures.file

pub returns-in-Ok-clause-merged : goal.returns-in-Ok-clause-merged
returns-in-Ok-clause-merged c =
    subst (λ (f : Text). IfOk c.merge_ours.result (λ (m : Merged). IsMergeOfFiles c.args.b f c.args.theirs.items m.text m.keys.items (map conflict_seen m.conflicts.items) m.lost.items m.uses.items))
    c.in-Ok.ensures.opened c.merge_ours.ensures.merged

pub returns-in-Ok-clause-left : goal.returns-in-Ok-clause-left
returns-in-Ok-clause-left c =
    subst (λ (f : Text). IfOk c.merge_ours.result (λ (m : Merged). LeavesTheOther c.args.b f c.args.theirs.items m.text (map conflict_seen m.conflicts.items)))
    c.in-Ok.ensures.opened c.merge_ours.ensures.left

pub returns-in-Ok-clause-files : goal.returns-in-Ok-clause-files
returns-in-Ok-clause-files c = on_ok_weaker c.merge_ours.result (λ theirs_open. (c.in-Ok.ensures.file, theirs_open)) c.merge_ours.ensures.theirs_open

pub returns-in-Ok-clause-fault : goal.returns-in-Ok-clause-fault
returns-in-Ok-clause-fault c = subst (λ (f : Text). IfErr c.merge_ours.result (IsMergeFault c.args.b f c.args.theirs.items)) c.in-Ok.ensures.opened c.merge_ours.ensures.fault

pub returns-in-Err-clause-fault : goal.returns-in-Err-clause-fault
returns-in-Err-clause-fault c = in_ours c.requires.base_opens c.in-Err.ensures.fault
