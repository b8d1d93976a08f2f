use Rattle.std.proofs.Common.{List, map, sym, ◌∙◌, ap, subst}
use Rattle.std.proofs.lemmas.Result.{err_from_is_err_and}
use Rattle.bib_spec.specs.Texts.{IsOpenable}
use Rattle.merge_spec.specs.Units.{Label}
use Rattle.bib_places.specs.OwnedLabels.{owned_seen}
use Rattle.bib_places.specs.ConflictsSeen.{conflict_seen}
use Rattle.bib_merge.specs.Merges.{label_given, IsMergeOfThree, IsOrMemory}
use Rattle.bib_merge.proofs.FollowedFiles.{of_texts, refused_texts}
use Rattle.bib_merge.proofs.merging.merge_followed.Goals as goal

pub remerged-requires-clause-base : goal.remerged-requires-clause-base
remerged-requires-clause-base c = subst IsOpenable (sym c.into_vec-base.ensures) c.requires.base

pub remerged-requires-clause-ours : goal.remerged-requires-clause-ours
remerged-requires-clause-ours c = subst IsOpenable (sym c.into_vec-ours.ensures) c.requires.ours

pub remerged-requires-clause-theirs : goal.remerged-requires-clause-theirs
remerged-requires-clause-theirs c = subst IsOpenable (sym c.into_vec-theirs.ensures) c.requires.theirs

pub returns-clause-merged : goal.returns-clause-merged
returns-clause-merged c =
    let files = c.args.files in
    let labels = ap (map owned_seen) c.as_slice-2.ensures.value ∙ c.in_ok-given.ensures ∙ ap (map label_given) c.as_slice.ensures.value in
    let told = subst (λ (ls : List Label). IsMergeOfThree ls c.into_vec-base.result.items c.into_vec-ours.result.items c.into_vec-theirs.result.items c.in_ok-told.told.text (map conflict_seen c.in_ok-told.told.conflicts.items) c.in_ok-told.told.lost.items c.in_ok-told.told.uses.items) labels c.in_ok-told.ensures.told in
    of_texts _ _ _ _ _ _ _ _ _ _ _ c.into_vec-base.ensures c.into_vec-ours.ensures c.into_vec-theirs.ensures told

pub returns-in_err-given-clause-fault : goal.returns-in_err-given-clause-fault
returns-in_err-given-clause-fault c =
    let p = err_from_is_err_and c.from_residual.result c.from_residual.ensures.1 in
    rw (p.1, p.2) IsOrMemory.no_memory

pub returns-in_err-told-clause-fault : goal.returns-in_err-told-clause-fault
returns-in_err-told-clause-fault c =
    let p = err_from_is_err_and c.from_residual-in_err-told.result c.from_residual-in_err-told.ensures.1 in
    let labels = ap (map owned_seen) c.as_slice-2.ensures.value ∙ c.in_ok-given.ensures ∙ ap (map label_given) c.as_slice.ensures.value in
    rw (p.1, p.2) (refused_texts _ _ _ _ _ _ _ _ labels c.into_vec-base.ensures c.into_vec-ours.ensures c.into_vec-theirs.ensures _ c.in_err-told.ensures.fault)
