use Rattle.bib_edit.proofs.Words.{◌≡◌, arith, both_ways, err_from_is_err_and, MoveEntry, last_position}
use Rattle.bib_edit.proofs.FoundItems.{held-within}
use Rattle.bib_edit.proofs.AskedEdits.{of-move_entry}
use Rattle.bib_edit.proofs.Moved.{move-high, move-merges, refused_address}
use Rattle.bib_edit.proofs.move_entry.movable.Goals as goal

pub returns-then-position-last_position-clause-refused : goal.returns-then-position-last_position-clause-refused
returns-then-position-last_position-clause-refused g c db reads =
    let bound = c.if-position-last_position.true in
    let last : c.last_position.result ≡ last_position db (MoveEntry c.args.key.now c.args.position) = c.last_position.ensures db reads in
    of-move_entry c.args.key.now c.args.position c.requires _ (move-high c.args.key.now c.args.position db (omega (arith, bound, last)))

pub returns-in_err-n-clause-refused : goal.returns-in_err-n-clause-refused
returns-in_err-n-clause-refused g c =
    let p = err_from_is_err_and c.from_residual.result c.from_residual.ensures.1 in
    rw (p.1, p.2) (refused_address c.args.key.now c.args.db.now c.requires c.args.position c.in_err-n.field-0.0
    (λ db reads.
    let bound = c.if-position-last_position.false in
    let last : c.last_position.result ≡ last_position db (MoveEntry c.args.key.now c.args.position) = c.last_position.ensures db reads in
    omega (arith, bound, last))
    c.in_err-n.ensures.refused)

pub joins_cleanly-requires : goal.joins_cleanly-requires
joins_cleanly-requires g c db reads = held-within c.args.key.now db c.in_ok-n.n (c.in_ok-n.ensures.lone db reads)

pub returns-then-not-branch-clause-refused : goal.returns-then-not-branch-clause-refused
returns-then-not-branch-clause-refused g c db reads =
    let bound = c.if-position-last_position.false in
    let last : c.last_position.result ≡ last_position db (MoveEntry c.args.key.now c.args.position) = c.last_position.ensures db reads in
    of-move_entry c.args.key.now c.args.position c.requires _ (move-merges c.args.key.now c.args.position db (omega (arith, bound, last)) c.in_ok-n.n (c.in_ok-n.ensures.lone db reads)
    (λ clean. both_ways c.in_ok-joins_cleanly.field-0 c.if-not-branch.true ((c.in_ok-joins_cleanly.ensures.clean db reads).1 clean)))

pub returns-clause-movable : goal.returns-clause-movable
returns-clause-movable g c db reads =
    let bound = c.if-position-last_position.false in
    let last : c.last_position.result ≡ last_position db (MoveEntry c.args.key.now c.args.position) = c.last_position.ensures db reads in
    record {
      low = omega (arith, bound, last);
      lone = c.in_ok-n.ensures.lone db reads;
      joins = (c.in_ok-joins_cleanly.ensures.clean db reads).0 c.if-not-branch.false;
    }
