use Rattle.bib_edit.proofs.Words.{◌+◌, ◌<◌, sym, subst, both_ways, err_from_is_err_and, length, file_limit, List, Piece, olds_len, news_len, IsOpenable}
use Rattle.bib_spec.specs.Pieces.{applied}
use Rattle.bib_edit.specs.MacroValues.{MakeShortFile, IsLengthFault, long_file, long_text, no_memory}
use Rattle.bib_edit.proofs.LimitTests.{not_over}
use Rattle.bib_edit.proofs.trying.unless_too_long.Goals as goal

pub returns-then-are_too_long-clause-refused : goal.returns-then-are_too_long-clause-refused
returns-then-are_too_long-clause-refused g c =
    long_file (subst (λ (ps : List Piece). file_limit + olds_len ps < length c.args.db.now + news_len ps) c.as_slice.ensures (c.are_too_long.ensures.0 c.if-are_too_long.true))

pub returns-in_err-make_open_file-clause-refused : goal.returns-in_err-make_open_file-clause-refused
returns-in_err-make_open_file-clause-refused g c =
    let p = err_from_is_err_and c.from_residual.result c.from_residual.ensures.1 in
    rw (p.1, p.2) (subst (IsLengthFault c.args.pieces c.args.db.now) (sym c.in_err-make_open_file.ensures.only) no_memory)

pub returns-then-not-branch-clause-refused : goal.returns-then-not-branch-clause-refused
returns-then-not-branch-clause-refused g c =
    long_text (subst (λ (ps : List Piece). MakeShortFile ps c.args.db.now) c.as_slice.ensures (not_over c.are_too_long.result _ _ c.are_too_long.ensures.1 c.if-are_too_long.false))
    (λ opens. both_ways c.in_ok-make_open_file.field-0 c.if-not-branch.true
    (c.in_ok-make_open_file.ensures.opens.1 (subst (λ (ps : List Piece). IsOpenable (applied ps c.args.db.now)) (sym c.as_slice-2.ensures) opens)))
