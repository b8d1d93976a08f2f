use Rattle.bib_edit.proofs.Words.{◌≡◌, ◌++◌, sym, ◌∙◌, ap, arith, List, err_from_is_err_and, Piece, RenameMacro, pieces_of, made_base, tokens_seen, replaced}
use Rattle.bib_edit.proofs.FoundItems.{defined-within}
use Rattle.bib_edit.proofs.NamesInUse.{taken-before, taken-from, taken-never}
use Rattle.bib_edit.proofs.PieceLengths.{goes-within}
use Rattle.bib_edit.proofs.LimitTests.{not_over}
use Rattle.bib_edit.proofs.OpenFiles.{opens-as}
use Rattle.bib_edit.proofs.AskedEdits.{of-rename_macro}
use Rattle.bib_edit.proofs.RenamedMacro.{rename-in_use, rename-long_file, rename-accepted, refused-name, refused-definition, defined-there, renaming-pieces}
use Rattle.bib_edit.proofs.rename_macro.rename_macro.Goals as goal

pub returns-then-not-are_names-clause-refused : goal.returns-then-not-are_names-clause-refused
returns-then-not-are_names-clause-refused g c = refused-name c.args.from.now c.args.to.now c.args.db.now (sym c.are_names.ensures ∙ c.if-not-are_names.true)

pub names_from-requires : goal.names_from-requires
names_from-requires g c = defined-there c.args.db.now c.args.from.now c.args.to.now c.in_ok-n.n c.in_ok-n.ensures.lone

pub returns-in_err-n-clause-refused : goal.returns-in_err-n-clause-refused
returns-in_err-n-clause-refused g c =
    let p = err_from_is_err_and c.from_residual.result c.from_residual.ensures.1 in
    rw (p.1, p.2) (refused-definition c.args.from.now c.args.to.now c.args.db.now (sym c.are_names.ensures ∙ c.if-not-are_names.false) c.in_err-n.field-0.0 c.in_err-n.ensures.refused)

pub is_taken_before-requires : goal.is_taken_before-requires
is_taken_before-requires g c db reads =
    let within = defined-within c.args.from.now db c.in_ok-n.n (c.in_ok-n.ensures.lone db reads) in omega (arith, within)

pub returns-then-branch-clause-refused : goal.returns-then-branch-clause-refused
returns-then-branch-clause-refused g c db reads =
    of-rename_macro c.args.from.now c.args.to.now _
    (rename-in_use c.args.from.now c.args.to.now db (sym c.are_names.ensures ∙ c.if-not-are_names.false) (c.in_ok-n.ensures.lone db reads).once
    (taken-before c.in_ok-n.n c.args.from.now c.args.to.now db.items (sym (c.in_ok-is_taken_before.ensures.taken db reads) ∙ c.if-branch.true)))

pub returns-then-names-clause-refused : goal.returns-then-names-clause-refused
returns-then-names-clause-refused g c db reads =
    of-rename_macro c.args.from.now c.args.to.now _
    (rename-in_use c.args.from.now c.args.to.now db (sym c.are_names.ensures ∙ c.if-not-are_names.false) (c.in_ok-n.ensures.lone db reads).once
    (taken-from c.in_ok-n.n c.args.from.now c.args.to.now db.items (sym (c.in_ok-names.ensures.taken db reads) ∙ c.if-names.true)))

pub is_result_too_long-requires : goal.is_result_too_long-requires
is_result_too_long-requires g c =
    let within = goes-within (RenameMacro c.args.from.now c.args.to.now) c.args.db.now c.opens.ensures.0 c.opens.ensures.1.reads _
    (renaming-pieces c.args.db.now c.args.from.now c.args.to.now c.in_ok-n.n c.in_ok-n.ensures.lone (tokens_seen c.as_slice.result.now)
    (λ db reads d at. ap tokens_seen c.as_slice.ensures.value ∙ c.in_ok-names.ensures.tokens db reads d at) c.opens.ensures.0 c.opens.ensures.1.reads) in
    record { inside = omega (arith, within) }

pub returns-then-is_result_too_long-clause-refused : goal.returns-then-is_result_too_long-clause-refused
returns-then-is_result_too_long-clause-refused g c db reads = of-rename_macro c.args.from.now c.args.to.now _
    (rename-long_file c.args.from.now c.args.to.now db (sym c.are_names.ensures ∙ c.if-not-are_names.false) (c.in_ok-n.ensures.lone db reads).once (taken-never c.in_ok-n.n c.args.from.now c.args.to.now db.items (sym (c.in_ok-is_taken_before.ensures.taken db reads) ∙ c.if-branch.false) (sym (c.in_ok-names.ensures.taken db reads) ∙ c.if-names.false)) c.args.db.now (opens-as c.args.db.now db c.one_reading.ensures c.opens.ensures reads) _
    (renaming-pieces c.args.db.now c.args.from.now c.args.to.now c.in_ok-n.n c.in_ok-n.ensures.lone (tokens_seen c.as_slice.result.now)
    (λ db reads d at. ap tokens_seen c.as_slice.ensures.value ∙ c.in_ok-names.ensures.tokens db reads d at) db reads) (let over = c.is_result_too_long.ensures.0 c.if-is_result_too_long.true in omega (arith, over)))

pub returns-clause-pieces : goal.returns-clause-pieces
returns-clause-pieces g c db reads = of-rename_macro c.args.from.now c.args.to.now (λ e. c.from_vec.result ≡ pieces_of made_base db e)
    (c.from_vec.ensures ∙ c.in_ok-push_replaced.ensures.pieces ∙ ap (λ (ps : List Piece). ps ++ replaced c.args.to.now (tokens_seen c.as_slice-2.result.now)) c.new-pieces.ensures.items
    ∙ renaming-pieces c.args.db.now c.args.from.now c.args.to.now c.in_ok-n.n c.in_ok-n.ensures.lone (tokens_seen c.as_slice-2.result.now)
    (λ db reads d at. ap tokens_seen c.as_slice-2.ensures.value ∙ c.in_ok-names.ensures.tokens db reads d at) db reads)

pub returns-clause-allowed : goal.returns-clause-allowed
returns-clause-allowed g c db reads = of-rename_macro c.args.from.now c.args.to.now _
    (rename-accepted c.args.from.now c.args.to.now db (sym c.are_names.ensures ∙ c.if-not-are_names.false) (c.in_ok-n.ensures.lone db reads).once (taken-never c.in_ok-n.n c.args.from.now c.args.to.now db.items (sym (c.in_ok-is_taken_before.ensures.taken db reads) ∙ c.if-branch.false) (sym (c.in_ok-names.ensures.taken db reads) ∙ c.if-names.false)) c.args.db.now (opens-as c.args.db.now db c.one_reading.ensures c.opens.ensures reads) _
    (renaming-pieces c.args.db.now c.args.from.now c.args.to.now c.in_ok-n.n c.in_ok-n.ensures.lone (tokens_seen c.as_slice.result.now)
    (λ db reads d at. ap tokens_seen c.as_slice.ensures.value ∙ c.in_ok-names.ensures.tokens db reads d at) db reads) (let short = not_over c.is_result_too_long.result _ _ c.is_result_too_long.ensures.1 c.if-is_result_too_long.false in omega (arith, short)))
