use Rattle.bib_edit.proofs.Words.{◌≡◌, arith, both_ways, err_from_is_err_and, last_position}
use Rattle.edit_spec.specs.Edits.{Moves}
use Rattle.bib_edit.specs.Numbers.{which_seen}
use Rattle.bib_edit.specs.OneOfSeveral.{change}
use Rattle.bib_edit.proofs.MeantItems.{meant-within}
use Rattle.bib_edit.proofs.MovedOne.{move-one-high, move-one-merges, refused_one_move}
use Rattle.bib_edit.proofs.one_entry.movable_one.Goals as goal

pub returns-then-position-last_position-clause-refused : goal.returns-then-position-last_position-clause-refused
returns-then-position-last_position-clause-refused g c db reads =
    let bound = c.if-position-last_position.true in
    let last : c.last_position.result ≡ last_position db (change c.args.key (Moves c.args.position)) = c.last_position.ensures db reads in
    move-one-high (which_seen c.args.key) c.args.position db (omega (arith, bound, last))

pub returns-in_err-n-clause-refused : goal.returns-in_err-n-clause-refused
returns-in_err-n-clause-refused g c =
    let p = err_from_is_err_and c.from_residual.result c.from_residual.ensures.1 in
    rw (p.1, p.2) (refused_one_move c.args.db.now c.args.key c.args.position c.in_err-n.field-0.0
    (λ db reads.
    let bound = c.if-position-last_position.false in
    let last : c.last_position.result ≡ last_position db (change c.args.key (Moves c.args.position)) = c.last_position.ensures db reads in
    omega (arith, bound, last))
    c.in_err-n.ensures.refused)

pub joins_cleanly-requires : goal.joins_cleanly-requires
joins_cleanly-requires g c db reads = meant-within (which_seen c.args.key) db c.in_ok-n.n (c.in_ok-n.ensures.meant db reads).item

pub returns-then-not-branch-clause-refused : goal.returns-then-not-branch-clause-refused
returns-then-not-branch-clause-refused g c db reads =
    let bound = c.if-position-last_position.false in
    let last : c.last_position.result ≡ last_position db (change c.args.key (Moves c.args.position)) = c.last_position.ensures db reads in
    let meant = c.in_ok-n.ensures.meant db reads in
    move-one-merges (which_seen c.args.key) c.args.position db (omega (arith, bound, last)) c.in_ok-n.n meant.item meant.clear
    (λ clean. both_ways c.in_ok-joins_cleanly.field-0 c.if-not-branch.true ((c.in_ok-joins_cleanly.ensures.clean db reads).1 clean))

pub returns-clause-movable : goal.returns-clause-movable
returns-clause-movable g c db reads =
    let bound = c.if-position-last_position.false in
    let last : c.last_position.result ≡ last_position db (change c.args.key (Moves c.args.position)) = c.last_position.ensures db reads in
    record {
      low = omega (arith, bound, last);
      meant = c.in_ok-n.ensures.meant db reads;
      joins = (c.in_ok-joins_cleanly.ensures.clean db reads).0 c.if-not-branch.false;
    }
