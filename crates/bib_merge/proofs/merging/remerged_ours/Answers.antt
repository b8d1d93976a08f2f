use Rattle.std.proofs.Common.{map, subst}
use Rattle.std.specs.Prelude.{IfOk, IfErr}
use Rattle.std.proofs.lemmas.Result.{err_from_is_err_and}
use Rattle.bib_spec.specs.Text.{Text}
use Rattle.bib_places.specs.OwnedLabels.{owned_seen}
use Rattle.bib_places.specs.ConflictsSeen.{conflict_seen}
use Rattle.bib_merge.specs.declared.told.Told.{Told}
use Rattle.bib_merge.specs.Merges.{IsMergeOfThree, RefusesMergeOfThree, IsOrMemory}
use Rattle.bib_merge.proofs.merging.remerged_ours.Goals as goal

pub returns-clause-told : goal.returns-clause-told
returns-clause-told c =
    subst (λ (f : Text). IfOk c.merge_open.result (λ (told : Told). IsMergeOfThree (map owned_seen c.args.given.now) c.args.b c.args.o f told.text (map conflict_seen told.conflicts.items) told.lost.items told.uses.items))
    c.in_ok-t.ensures c.merge_open.ensures.told

pub returns-clause-fault : goal.returns-clause-fault
returns-clause-fault c = subst (λ (f : Text). IfErr c.merge_open.result (IsOrMemory (RefusesMergeOfThree (map owned_seen c.args.given.now) c.args.b c.args.o f))) c.in_ok-t.ensures c.merge_open.ensures.fault

pub returns-in_err-t-clause-fault : goal.returns-in_err-t-clause-fault
returns-in_err-t-clause-fault c =
    let p = err_from_is_err_and c.from_residual.result c.from_residual.ensures.1 in
    rw (p.1, p.2) IsOrMemory.no_memory
