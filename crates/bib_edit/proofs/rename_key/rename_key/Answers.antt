use Rattle.bib_edit.proofs.Words.{◌≡◌, true, sym, ◌∙◌, err_from_is_err_and, is_new_key, RenameKey}
use Rattle.bib_edit.proofs.AskedEdits.{of-rename_key}
use Rattle.bib_edit.proofs.LimitTests.{not_over}
use Rattle.bib_edit.proofs.PieceLengths.{asked-short}
use Rattle.bib_edit.proofs.OpenFiles.{opens-as}
use Rattle.bib_edit.proofs.RenamedKeys.{one-alone, refused-key, refused-holders, refused-use, pieces-are, refused-file, accepted}
use Rattle.bib_edit.proofs.rename_key.rename_key.Goals as goal

pub returns-then-not-is_key-clause-refused : goal.returns-then-not-is_key-clause-refused
returns-then-not-is_key-clause-refused g c = refused-key c.args.db.now c.args.from.now c.args.to.now c.requires (sym c.is_key.ensures ∙ c.if-not-is_key.true)

pub returns-in_err-n-clause-refused : goal.returns-in_err-n-clause-refused
returns-in_err-n-clause-refused g c =
    let p = err_from_is_err_and c.from_residual.result c.from_residual.ensures.1 in
    let is : is_new_key c.args.to.now ≡ true = sym c.is_key.ensures ∙ c.if-not-is_key.false in
    rw (p.1, p.2) (refused-holders c.args.db.now c.args.from.now c.args.to.now c.requires is c.in_err-n.field-0.0 c.in_err-n.ensures.refused)

pub returns-then-is_in_use-clause-refused : goal.returns-then-is_in_use-clause-refused
returns-then-is_in_use-clause-refused g c =
    let is : is_new_key c.args.to.now ≡ true = sym c.is_key.ensures ∙ c.if-not-is_key.false in
    refused-use c.args.db.now c.args.from.now c.args.to.now c.requires is c.in_ok-n.n c.in_ok-n.ensures.lone
    (λ db reads. sym (c.is_in_use.ensures db reads) ∙ c.if-is_in_use.true)

pub are_too_long-requires : goal.are_too_long-requires
are_too_long-requires g c =
    let is : is_new_key c.args.to.now ≡ true = sym c.is_key.ensures ∙ c.if-not-is_key.false in
    asked-short c.args.db.now (RenameKey c.args.from.now c.args.to.now) _ (λ db reads. of-rename_key c.args.from.now c.args.to.now c.requires _
    (c.as_slice.ensures ∙ c.in_ok-pieces.ensures.pieces db reads ∙ pieces-are c.args.db.now c.args.from.now c.args.to.now c.requires is c.in_ok-n.n c.in_ok-n.ensures.lone
    (λ db reads. sym (c.is_in_use.ensures db reads) ∙ c.if-is_in_use.false) c.in_ok-new.new c.in_ok-new.ensures.0 c.in_ok-new.ensures.1 db reads)) c.opens.ensures

pub returns-then-are_too_long-clause-refused : goal.returns-then-are_too_long-clause-refused
returns-then-are_too_long-clause-refused g c db reads =
    let is : is_new_key c.args.to.now ≡ true = sym c.is_key.ensures ∙ c.if-not-is_key.false in
    of-rename_key c.args.from.now c.args.to.now c.requires _
    (refused-file c.args.db.now c.args.from.now c.args.to.now c.requires is c.in_ok-n.n c.in_ok-n.ensures.lone
    (λ db reads. sym (c.is_in_use.ensures db reads) ∙ c.if-is_in_use.false) c.in_ok-new.new c.in_ok-new.ensures.0 c.in_ok-new.ensures.1 db reads _ (c.as_slice.ensures ∙ c.in_ok-pieces.ensures.pieces db reads) (c.are_too_long.ensures.0 c.if-are_too_long.true))

pub returns-clause-pieces : goal.returns-clause-pieces
returns-clause-pieces g c db reads =
    let is : is_new_key c.args.to.now ≡ true = sym c.is_key.ensures ∙ c.if-not-is_key.false in
    of-rename_key c.args.from.now c.args.to.now c.requires _
    (c.in_ok-pieces.ensures.pieces db reads
    ∙ pieces-are c.args.db.now c.args.from.now c.args.to.now c.requires is c.in_ok-n.n c.in_ok-n.ensures.lone
    (λ db reads. sym (c.is_in_use.ensures db reads) ∙ c.if-is_in_use.false) c.in_ok-new.new c.in_ok-new.ensures.0 c.in_ok-new.ensures.1 db reads)

pub returns-clause-allowed : goal.returns-clause-allowed
returns-clause-allowed g c db reads =
    let is : is_new_key c.args.to.now ≡ true = sym c.is_key.ensures ∙ c.if-not-is_key.false in
    of-rename_key c.args.from.now c.args.to.now c.requires _
    (accepted c.args.db.now c.args.from.now c.args.to.now c.requires is c.in_ok-n.n c.in_ok-n.ensures.lone
    (λ db reads. sym (c.is_in_use.ensures db reads) ∙ c.if-is_in_use.false) c.in_ok-new.new c.in_ok-new.ensures.0 c.in_ok-new.ensures.1
    db (opens-as c.args.db.now db c.one_reading.ensures c.opens.ensures reads) _ (c.as_slice.ensures ∙ c.in_ok-pieces.ensures.pieces db reads) (not_over c.are_too_long.result _ _ c.are_too_long.ensures.1 c.if-are_too_long.false))

pub renaming-requires-clause-named : goal.renaming-requires-clause-named
renaming-requires-clause-named g c db reads = (c.in_ok-n.ensures.lone db reads).named

pub renaming-requires-clause-alone : goal.renaming-requires-clause-alone
renaming-requires-clause-alone g c = one-alone c.in_ok-new.new c.in_ok-n.n c.args.to.now c.in_ok-new.ensures.0 c.in_ok-new.ensures.1
