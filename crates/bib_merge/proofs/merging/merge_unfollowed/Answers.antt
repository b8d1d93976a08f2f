use Rattle.std.proofs.Common.{map, ◌∙◌, ap}
use Rattle.std.proofs.lemmas.Result.{err_from_is_err_and}
use Rattle.bib_places.specs.OwnedLabels.{owned_seen}
use Rattle.bib_places.specs.ConflictsSeen.{conflict_seen}
use Rattle.bib_merge.proofs.FollowedFiles.{told_again, refused_unfollowed}
use Rattle.bib_merge.proofs.merging.merge_unfollowed.Goals as goal

pub returns-clause-merged : goal.returns-clause-merged
returns-clause-merged c =
    told_again _ _ _ _ _ _ _ _ _ _ _ _ _ c.without_keys.ensures.keys (ap (map owned_seen) (c.as_slice.ensures.value ∙ c.new-none.ensures.items))
    c.without_keys.ensures.text (ap (map conflict_seen) c.without_keys.ensures.conflicts) c.without_keys.ensures.lost c.without_keys.ensures.uses c.in_ok-told.ensures.told

pub returns-in_err-told-clause-fault : goal.returns-in_err-told-clause-fault
returns-in_err-told-clause-fault c =
    let p = err_from_is_err_and c.from_residual.result c.from_residual.ensures.1 in
    rw (p.1, p.2) (refused_unfollowed _ _ _ _ (ap (map owned_seen) (c.as_slice.ensures.value ∙ c.new-none.ensures.items)) _ c.in_err-told.ensures.fault)
