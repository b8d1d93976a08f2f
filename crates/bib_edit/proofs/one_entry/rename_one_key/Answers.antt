use Rattle.bib_edit.proofs.Words.{◌≡◌, true, sym, ◌∙◌, err_from_is_err_and, is_new_key}
use Rattle.edit_spec.specs.Edits.{RenamesKey}
use Rattle.bib_edit.specs.Numbers.{which_seen}
use Rattle.bib_edit.specs.OneOfSeveral.{change}
use Rattle.bib_edit.proofs.LimitTests.{not_over}
use Rattle.bib_edit.proofs.PlannedPieces.{planned-short}
use Rattle.bib_edit.proofs.OpenFiles.{opens-as}
use Rattle.bib_edit.proofs.RekeyedOne.{rekey-one-bad, rekey-one-taken, rekey-one-long, rekey-one-accepted, refused_one_key}
use Rattle.bib_edit.proofs.one_entry.rename_one_key.Goals as goal

pub returns-then-not-is_key-clause-refused : goal.returns-then-not-is_key-clause-refused
returns-then-not-is_key-clause-refused g c db reads = rekey-one-bad (which_seen c.args.key) c.args.to.now db (sym c.is_key.ensures ∙ c.if-not-is_key.true)

pub returns-in_err-n-clause-refused : goal.returns-in_err-n-clause-refused
returns-in_err-n-clause-refused g c =
    let p = err_from_is_err_and c.from_residual.result c.from_residual.ensures.1 in
    rw (p.1, p.2) (refused_one_key c.args.db.now c.args.key c.args.to.now c.in_err-n.field-0.0 (sym c.is_key.ensures ∙ c.if-not-is_key.false) c.in_err-n.ensures.refused)

pub is_taken-requires : goal.is_taken-requires
is_taken-requires g c = sym c.is_key.ensures ∙ c.if-not-is_key.false

pub returns-then-is_taken-clause-refused : goal.returns-then-is_taken-clause-refused
returns-then-is_taken-clause-refused g c db reads =
    let is : is_new_key c.args.to.now ≡ true = sym c.is_key.ensures ∙ c.if-not-is_key.false in
    let meant = c.in_ok-n.ensures.meant db reads in
    rekey-one-taken (which_seen c.args.key) c.args.to.now db is c.in_ok-n.n meant.item meant.clear (sym (c.is_taken.ensures db reads) ∙ c.if-is_taken.true)

pub new_key_pieces-requires : goal.new_key_pieces-requires
new_key_pieces-requires g c db reads = (c.in_ok-n.ensures.meant db reads).item

pub are_too_long-requires : goal.are_too_long-requires
are_too_long-requires g c = planned-short (change c.args.key (RenamesKey c.args.to.now)) c.args.db.now _ (λ db reads. c.as_slice.ensures ∙ c.in_ok-pieces.ensures.pieces db reads) c.opens.ensures

pub returns-then-are_too_long-clause-refused : goal.returns-then-are_too_long-clause-refused
returns-then-are_too_long-clause-refused g c db reads =
    let is : is_new_key c.args.to.now ≡ true = sym c.is_key.ensures ∙ c.if-not-is_key.false in
    let meant = c.in_ok-n.ensures.meant db reads in
    rekey-one-long (which_seen c.args.key) c.args.to.now db is c.in_ok-n.n meant.item meant.clear (sym (c.is_taken.ensures db reads) ∙ c.if-is_taken.false)
    c.args.db.now _ (c.as_slice.ensures ∙ c.in_ok-pieces.ensures.pieces db reads) reads (c.are_too_long.ensures.0 c.if-are_too_long.true)

pub returns-clause-allowed : goal.returns-clause-allowed
returns-clause-allowed g c db reads =
    let is : is_new_key c.args.to.now ≡ true = sym c.is_key.ensures ∙ c.if-not-is_key.false in
    let meant = c.in_ok-n.ensures.meant db reads in
    rekey-one-accepted (which_seen c.args.key) c.args.to.now db is c.in_ok-n.n meant.item meant.clear (sym (c.is_taken.ensures db reads) ∙ c.if-is_taken.false)
    c.args.db.now _ (c.as_slice.ensures ∙ c.in_ok-pieces.ensures.pieces db reads)
    (opens-as c.args.db.now db c.one_reading.ensures c.opens.ensures reads) (not_over c.are_too_long.result _ _ c.are_too_long.ensures.1 c.if-are_too_long.false)
