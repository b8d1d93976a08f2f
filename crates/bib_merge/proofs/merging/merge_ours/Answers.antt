use Rattle.std.proofs.Common.{map, sym, subst}
use Rattle.std.specs.Prelude.{IfOk}
use Rattle.std.proofs.lemmas.Result.{IfOk-weaker, IfErr-weaker}
use Rattle.bib_spec.specs.Text.{Text}
use Rattle.bib_places.specs.ConflictsSeen.{conflict_seen}
use Rattle.bib_merge.specs.declared.merging.Merged.{Merged}
use Rattle.bib_merge.specs.Merges.{IsAlike, IsMergeOfFiles, LeavesTheOther, IsThreeFault, in_theirs, in_merged}
use Rattle.bib_merge.proofs.merging.merge_ours.Goals as goal

pub merge_three-requires : goal.merge_three-requires
merge_three-requires c = subst (λ (f : Text). IsAlike c.args.alike c.args.b c.args.o f) (sym c.in-Ok.ensures.opened) c.requires.alike

pub returns-in-Ok-clause-merged : goal.returns-in-Ok-clause-merged
returns-in-Ok-clause-merged c =
    subst (λ (f : Text). IfOk c.merge_three.result (λ (m : Merged). IsMergeOfFiles c.args.b c.args.o f m.text m.keys.items (map conflict_seen m.conflicts.items) m.lost.items m.uses.items))
    c.in-Ok.ensures.opened c.merge_three.ensures.merged

pub returns-in-Ok-clause-left : goal.returns-in-Ok-clause-left
returns-in-Ok-clause-left c =
    subst (λ (f : Text). IfOk c.merge_three.result (λ (m : Merged). LeavesTheOther c.args.b c.args.o f m.text (map conflict_seen m.conflicts.items)))
    c.in-Ok.ensures.opened c.merge_three.ensures.left

pub returns-in-Ok-clause-theirs_open : goal.returns-in-Ok-clause-theirs_open
returns-in-Ok-clause-theirs_open c = IfOk-weaker c.merge_three.result _ _ (λ merged opens. c.in-Ok.ensures.file) c.merge_three.ensures.opens

pub returns-in-Ok-clause-fault : goal.returns-in-Ok-clause-fault
returns-in-Ok-clause-fault c =
    IfErr-weaker c.merge_three.result _ _
    (λ fault why. in_merged c.requires.base_opens c.requires.ours_opens c.in-Ok.ensures.file (subst (λ (f : Text). IsThreeFault c.args.b c.args.o f fault) c.in-Ok.ensures.opened why))
    c.merge_three.ensures.fault

pub returns-in-Err-clause-fault : goal.returns-in-Err-clause-fault
returns-in-Err-clause-fault c = in_theirs c.requires.base_opens c.requires.ours_opens c.in-Err.ensures.fault
