use Rattle.bib_edit.proofs.Words.{◌≡◌, List, ◌∙◌, sym, ap, [], ◌∷◌, both_ways, err_from_is_err_and, Piece}
use Rattle.edit_spec.specs.Edits.{Removes}
use Rattle.bib_edit.specs.Numbers.{which_seen}
use Rattle.bib_edit.specs.OneOfSeveral.{ArePiecesFor, IsAllowedFor, change}
use Rattle.bib_edit.proofs.OpenFiles.{opens-as}
use Rattle.bib_edit.proofs.MeantItems.{meant-within}
use Rattle.bib_edit.proofs.RemovedOne.{remove-one-referred_by, remove-one-merges, remove-one-pieces, remove-one-accepted, refused_one_address}
use Rattle.bib_edit.proofs.Results.{if_ok-as, on_ok-of}
use Rattle.bib_edit.proofs.one_entry.remove_one.Goals as goal

pub returns-in_err-n-clause-refused : goal.returns-in_err-n-clause-refused
returns-in_err-n-clause-refused g c =
    let p = err_from_is_err_and c.from_residual.result c.from_residual.ensures.1 in
    rw (p.1, p.2) (refused_one_address c.args.db.now c.args.key c.in_err-n.field-0.0 c.in_err-n.ensures.refused)

pub is_parent_at-requires : goal.is_parent_at-requires
is_parent_at-requires g c db reads = (c.in_ok-n.ensures.meant db reads).item

pub returns-then-is_parent_at-clause-refused : goal.returns-then-is_parent_at-clause-refused
returns-then-is_parent_at-clause-refused g c db reads =
    let meant = c.in_ok-n.ensures.meant db reads in
    remove-one-referred_by (which_seen c.args.key) db c.in_ok-n.n meant.item meant.clear ((c.is_parent_at.ensures db reads).0 c.if-is_parent_at.true)

pub joins_cleanly-requires : goal.joins_cleanly-requires
joins_cleanly-requires g c db reads = meant-within (which_seen c.args.key) db c.in_ok-n.n (c.in_ok-n.ensures.meant db reads).item

pub returns-then-not-branch-clause-refused : goal.returns-then-not-branch-clause-refused
returns-then-not-branch-clause-refused g c db reads =
    let meant = c.in_ok-n.ensures.meant db reads in
    remove-one-merges (which_seen c.args.key) db c.in_ok-n.n meant.item meant.clear
    (λ refers. both_ways c.is_parent_at.result c.if-is_parent_at.false ((c.is_parent_at.ensures db reads).1 refers))
    (λ clean. both_ways c.in_ok-joins_cleanly.field-0 c.if-not-branch.true ((c.in_ok-joins_cleanly.ensures.clean db reads).1 clean))

pub removal_of-requires : goal.removal_of-requires
removal_of-requires g c db reads = meant-within (which_seen c.args.key) db c.in_ok-n.n (c.in_ok-n.ensures.meant db reads).item

pub returns-clause-pieces : goal.returns-clause-pieces
returns-clause-pieces g c =
    if_ok-as (λ (ps : List Piece). ps ≡ c.in_ok-removal.removal ∷ []) (ArePiecesFor (change c.args.key Removes) c.args.db.now)
    (λ ps is db reads.
    let meant = c.in_ok-n.ensures.meant db reads in
    is ∙ ap (λ (p : Piece). p ∷ []) (c.in_ok-removal.ensures.removal db reads) ∙ sym (remove-one-pieces (which_seen c.args.key) db c.in_ok-n.n meant.item meant.clear))
    c.one_piece.result c.one_piece.ensures.pieces

pub returns-clause-allowed : goal.returns-clause-allowed
returns-clause-allowed g c =
    on_ok-of (IsAllowedFor (change c.args.key Removes) c.args.db.now) c.one_piece.result
    (λ db reads.
    let meant = c.in_ok-n.ensures.meant db reads in
    remove-one-accepted (which_seen c.args.key) db c.in_ok-n.n meant.item meant.clear
    (λ refers. both_ways c.is_parent_at.result c.if-is_parent_at.false ((c.is_parent_at.ensures db reads).1 refers))
    c.args.db.now (opens-as c.args.db.now db c.one_reading.ensures c.opens.ensures reads) ((c.in_ok-joins_cleanly.ensures.clean db reads).0 c.if-not-branch.false))
