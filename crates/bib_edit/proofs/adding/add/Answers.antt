use Rattle.bib_edit.proofs.Words.{◌≡◌, ◌≤◌, List, sym, ◌∙◌, ap, subst, err_from_is_err_and, file_limit, Piece, olds_len, AreAnyLong, entries_text, put_in}
use Rattle.bib_edit.proofs.LimitTests.{not_over}
use Rattle.bib_edit.proofs.OpenFiles.{opens-as, none-long}
use Rattle.bib_edit.proofs.Added.{olds-put_in, of-addition, add-long_file, add-long_text, add-accepted}
use Rattle.bib_edit.proofs.adding.add.Goals as goal

pub returns-in_err-judge-clause-refused : goal.returns-in_err-judge-clause-refused
returns-in_err-judge-clause-refused g c =
    let p = err_from_is_err_and c.from_residual.result c.from_residual.ensures.1 in
    rw (p.1, p.2) c.in_err-judge.ensures.refused

pub are_any_long-requires-clause-place : goal.are_any_long-requires-clause-place
are_any_long-requires-clause-place g c db reads = (c.in_ok-judge.ensures.addable db reads).place

pub are_any_long-requires-clause-values : goal.are_any_long-requires-clause-values
are_any_long-requires-clause-values g c = (c.in_ok-judge.ensures.addable c.opens.ensures.0 c.opens.ensures.1.reads).values

pub put_in-requires : goal.put_in-requires
put_in-requires g c db reads = (c.in_ok-judge.ensures.addable db reads).place

pub are_too_long-requires : goal.are_too_long-requires
are_too_long-requires g c =
    subst (λ (ps : List Piece). olds_len ps ≤ file_limit) (sym (c.as_slice.ensures ∙ c.in_ok-pieces.ensures.pieces c.opens.ensures.0 c.opens.ensures.1.reads)) (olds-put_in c.opens.ensures.0 c.args.position c.in_ok-text.text)

pub returns-then-are_too_long-clause-refused : goal.returns-then-are_too_long-clause-refused
returns-then-are_too_long-clause-refused g c asked adds db reads =
    let made : c.as_slice.result.now ≡ put_in db c.args.position (entries_text c.args.entries.now) = c.as_slice.ensures ∙ c.in_ok-pieces.ensures.pieces db reads ∙ ap (put_in db c.args.position) c.in_ok-text.ensures in
    of-addition c.args.db.now asked c.args.position c.args.entries.now adds db reads _ (λ E news it. add-long_file E c.args.position c.args.entries.now news db it (c.in_ok-judge.ensures.addable db reads) c.args.db.now reads _ made
    (c.are_too_long.ensures.0 c.if-are_too_long.true))

pub returns-then-branch-clause-refused : goal.returns-then-branch-clause-refused
returns-then-branch-clause-refused g c asked adds db reads =
    let made : c.as_slice.result.now ≡ put_in db c.args.position (entries_text c.args.entries.now) = c.as_slice.ensures ∙ c.in_ok-pieces.ensures.pieces db reads ∙ ap (put_in db c.args.position) c.in_ok-text.ensures in
    let short = not_over c.are_too_long.result _ _ c.are_too_long.ensures.1 c.if-are_too_long.false in
    let none = none-long c.args.db.now db (opens-as c.args.db.now db c.one_reading.ensures c.opens.ensures reads) in
    let long = subst (λ b. AreAnyLong b db c.args.position c.args.entries.now) c.if-branch.true (c.in_ok-are_any_long.ensures.long db reads) in
    of-addition c.args.db.now asked c.args.position c.args.entries.now adds db reads _ (λ E news it. add-long_text E c.args.position c.args.entries.now news db it (c.in_ok-judge.ensures.addable db reads) c.args.db.now reads _ made short none long)

pub returns-clause-pieces : goal.returns-clause-pieces
returns-clause-pieces g c asked adds db reads =
    of-addition c.args.db.now asked c.args.position c.args.entries.now adds db reads _ (λ E news it. c.in_ok-pieces.ensures.pieces db reads ∙ ap (put_in db c.args.position) c.in_ok-text.ensures ∙ sym it.pieces)

pub returns-clause-allowed : goal.returns-clause-allowed
returns-clause-allowed g c asked adds db reads =
    let made : c.as_slice.result.now ≡ put_in db c.args.position (entries_text c.args.entries.now) = c.as_slice.ensures ∙ c.in_ok-pieces.ensures.pieces db reads ∙ ap (put_in db c.args.position) c.in_ok-text.ensures in
    let short = not_over c.are_too_long.result _ _ c.are_too_long.ensures.1 c.if-are_too_long.false in
    let none = none-long c.args.db.now db (opens-as c.args.db.now db c.one_reading.ensures c.opens.ensures reads) in
    let long = subst (λ b. AreAnyLong b db c.args.position c.args.entries.now) c.if-branch.false (c.in_ok-are_any_long.ensures.long db reads) in
    of-addition c.args.db.now asked c.args.position c.args.entries.now adds db reads _ (λ E news it. add-accepted E c.args.position c.args.entries.now news db it (c.in_ok-judge.ensures.addable db reads) c.args.db.now reads _ made short none long)
