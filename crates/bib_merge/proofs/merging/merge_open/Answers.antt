use Rattle.std.proofs.Common.{map, sym, subst}
use Rattle.std.proofs.lemmas.Result.{err_from_is_err_and}
use Rattle.bib_spec.specs.Text.{Text}
use Rattle.bib_spec.specs.Texts.{IsOpenable}
use Rattle.bib_places.specs.OwnedLabels.{owned_seen}
use Rattle.bib_places.specs.ConflictsSeen.{conflict_seen}
use Rattle.bib_merge.specs.Merges.{IsMergeOfThree, IsOrMemory}
use Rattle.bib_merge.proofs.merging.merge_open.Goals as goal

pub returns-clause-told : goal.returns-clause-told
returns-clause-told c =
    let f = c.in_ok-found.found in
    subst (λ (t : Text). IsMergeOfThree (map owned_seen c.args.given.now) c.args.b c.args.o c.args.t t (map conflict_seen f.conflicts.items) f.lost.items f.uses.items) (sym c.in_ok-text.ensures.text) c.in_ok-found.ensures.told

pub returns-clause-opens : goal.returns-clause-opens
returns-clause-opens c = subst IsOpenable (sym c.in_ok-text.ensures.text) c.in_ok-text.ensures.opens

pub returns-in_err-found-clause-fault : goal.returns-in_err-found-clause-fault
returns-in_err-found-clause-fault c =
    let p = err_from_is_err_and c.from_residual.result c.from_residual.ensures.1 in
    rw (p.1, p.2) c.in_err-found.ensures.fault

pub returns-in_err-text-clause-fault : goal.returns-in_err-text-clause-fault
returns-in_err-text-clause-fault c =
    let p = err_from_is_err_and c.from_residual-in_err-text.result c.from_residual-in_err-text.ensures.1 in
    rw (p.1, p.2) IsOrMemory.no_memory
