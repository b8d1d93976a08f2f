use Rattle.std.proofs.Common.{[], IfNone, map, ap, refl, subst}
use Rattle.std.specs.Option.{IfSome}
use Rattle.std.proofs.lemmas.Result.{IfErr-weaker}
use Rattle.bib_places.specs.ConflictsSeen.{conflict_seen}
use Rattle.bib_merge.specs.declared.told.Told.{Told}
use Rattle.bib_merge.specs.Merges.{IsMergeOfThree, AllDiffer, IsThreeFault}
use Rattle.bib_merge.proofs.FollowedFiles.{told_again}
use Rattle.bib_merge.proofs.RefusedTexts.{three_fault}
use Rattle.bib_merge.proofs.merging.merge_three.Goals as goal

pub returns-in-Ok-Some-clause-merged : goal.returns-in-Ok-Some-clause-merged
returns-in-Ok-Some-clause-merged c =
    let told = subst (λ found. IfSome found (λ (t : Told). IsMergeOfThree [] c.args.b c.args.o c.args.t t.text (map conflict_seen t.conflicts.items) t.lost.items t.uses.items)) c.in-Ok-Some.field-0-is c.in-Ok-Some.ensures.told in
    told_again _ _ _ _ _ _ _ _ _ _ _ _ _ c.without_keys.ensures.keys refl
    c.without_keys.ensures.text (ap (map conflict_seen) c.without_keys.ensures.conflicts) c.without_keys.ensures.lost c.without_keys.ensures.uses told

pub returns-in-Ok-None-clause-fault : goal.returns-in-Ok-None-clause-fault
returns-in-Ok-None-clause-fault c =
    let differ = subst (λ found. IfNone found (AllDiffer c.args.b c.args.o c.args.t)) c.in-Ok-None.field-0-is c.in-Ok-None.ensures.differ in
    IfErr-weaker c.merge_changed.result _ _ (three_fault _ _ _ differ) c.merge_changed.ensures.fault

pub returns-in-Err-clause-fault : goal.returns-in-Err-clause-fault
returns-in-Err-clause-fault c = IsThreeFault.no_memory
