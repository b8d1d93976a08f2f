use Rattle.bib_edit.proofs.Words.{◌≡◌, ◌∷◌, ◌+◌, ◌<◌, ◌≤◌, length, sym, ◌∙◌, ap, ap₂, subst₂, arith, both_ways, err_from_is_err_and, IfOk-weaker, ok_always, file_limit, Text, Piece, pieces_of, olds_len, news_len, ArePiecesOf, made_base, tokens_seen, replaced, only-tokens}
use Rattle.edit_spec.specs.Edits as edits
use Rattle.bib_data.specs.declared.edit.Edit.TheVariants.{InlineMacro}
use Rattle.bib_edit.proofs.FoundItems.{defined-within}
use Rattle.bib_edit.proofs.LimitTests.{not_over}
use Rattle.bib_edit.proofs.PieceLengths.{goes-within}
use Rattle.bib_edit.proofs.OpenFiles.{opens-as}
use Rattle.bib_edit.proofs.AskedEdits.{of-inline_macro}
use Rattle.bib_edit.proofs.InlinedMacro.{inline-merges, inline-long_file, inline-accepted, refused-name, refused-definition, inlining-pieces}
use Rattle.bib_edit.proofs.inline_macro.inline_macro.Goals as goal

pub returns-then-not-is_name-clause-refused : goal.returns-then-not-is_name-clause-refused
returns-then-not-is_name-clause-refused g c = refused-name c.args.name.now c.args.db.now (sym c.is_name.ensures ∙ c.if-not-is_name.true)

pub returns-in_err-n-clause-refused : goal.returns-in_err-n-clause-refused
returns-in_err-n-clause-refused g c =
    let p = err_from_is_err_and c.from_residual.result c.from_residual.ensures.1 in
    rw (p.1, p.2) (refused-definition c.args.name.now c.args.db.now (sym c.is_name.ensures ∙ c.if-not-is_name.false) c.in_err-n.field-0.0 c.in_err-n.ensures.refused)

pub joins_cleanly-requires : goal.joins_cleanly-requires
joins_cleanly-requires g c db reads = defined-within c.args.name.now db c.in_ok-n.n (c.in_ok-n.ensures.lone db reads)

pub returns-then-not-branch-clause-refused : goal.returns-then-not-branch-clause-refused
returns-then-not-branch-clause-refused g c db reads = of-inline_macro c.args.name.now _
    (inline-merges c.args.name.now db (sym c.is_name.ensures ∙ c.if-not-is_name.false) c.in_ok-n.n (c.in_ok-n.ensures.lone db reads)
    (λ clean. both_ways c.in_ok-joins_cleanly.field-0 c.if-not-branch.true ((c.in_ok-joins_cleanly.ensures.clean db reads).1 clean)))

pub overflow_add-n : goal.overflow_add-n
overflow_add-n g c =
    let db = c.opens.ensures.0 in
    let reads = c.opens.ensures.1.reads in
    let within = defined-within c.args.name.now db c.in_ok-n.n (c.in_ok-n.ensures.lone db reads) in
    let count = c.item_count.ensures db reads in
    let many = c.item_count.type_inv in omega (arith, within, count, many)

pub push_from-requires : goal.push_from-requires
push_from-requires g c db reads =
    let within = defined-within c.args.name.now db c.in_ok-n.n (c.in_ok-n.ensures.lone db reads) in omega (arith, within)

pub body_of-requires : goal.body_of-requires
body_of-requires g c db reads = defined-within c.args.name.now db c.in_ok-n.n (c.in_ok-n.ensures.lone db reads)

pub removal_of-requires : goal.removal_of-requires
removal_of-requires g c db reads = defined-within c.args.name.now db c.in_ok-n.n (c.in_ok-n.ensures.lone db reads)

pub is_result_too_long-requires : goal.is_result_too_long-requires
is_result_too_long-requires g c =
    let db = c.opens.ensures.0 in
    let reads = c.opens.ensures.1.reads in
    let text = c.as_slice-2.ensures ∙ c.in_ok-text.ensures db reads in
    let within = goes-within (edits.InlineMacro c.args.name.now) c.args.db.now db reads _ (inlining-pieces c.args.db.now c.args.name.now c.in_ok-n.n c.in_ok-n.ensures.lone (tokens_seen c.as_slice.result.now)
    (λ db reads. ap tokens_seen c.as_slice.ensures.value ∙ only-tokens _ _ _ (ap tokens_seen c.new-tokens.ensures.items) (c.in_ok-push_from.ensures.tokens db reads)) db reads) in
    record { inside = subst₂ (λ (b t : Text). length b + olds_len (replaced t (tokens_seen c.as_slice.result.now)) ≤ length c.args.db.now) (sym (c.body_of.ensures db reads)) (sym text) within }

pub returns-then-is_result_too_long-clause-refused : goal.returns-then-is_result_too_long-clause-refused
returns-then-is_result_too_long-clause-refused g c db reads =
    let text = c.as_slice-2.ensures ∙ c.in_ok-text.ensures db reads in
    of-inline_macro c.args.name.now _
    (inline-long_file c.args.name.now db (sym c.is_name.ensures ∙ c.if-not-is_name.false) c.in_ok-n.n (c.in_ok-n.ensures.lone db reads) c.args.db.now (opens-as c.args.db.now db c.one_reading.ensures c.opens.ensures reads) ((c.in_ok-joins_cleanly.ensures.clean db reads).0 c.if-not-branch.false) _
    (inlining-pieces c.args.db.now c.args.name.now c.in_ok-n.n c.in_ok-n.ensures.lone (tokens_seen c.as_slice.result.now)
    (λ db reads. ap tokens_seen c.as_slice.ensures.value ∙ only-tokens _ _ _ (ap tokens_seen c.new-tokens.ensures.items) (c.in_ok-push_from.ensures.tokens db reads)) db reads)
    (subst₂ (λ (b t : Text). file_limit + (length b + olds_len (replaced t (tokens_seen c.as_slice.result.now))) < length c.args.db.now + (0 + news_len (replaced t (tokens_seen c.as_slice.result.now)))) (c.body_of.ensures db reads) text
    (c.is_result_too_long.ensures.0 c.if-is_result_too_long.true)))

pub returns-clause-pieces : goal.returns-clause-pieces
returns-clause-pieces g c = IfOk-weaker c.replaced_after.result _ (ArePiecesOf c.args.db.now (InlineMacro c.args.name.now)) (λ result is db reads.
    of-inline_macro c.args.name.now (λ e. result ≡ pieces_of made_base db e)
    (is ∙ ap₂ (λ (p : Piece) (t : Text). p ∷ replaced t (tokens_seen c.as_slice-3.result.now)) (c.in_ok-removal.ensures.removal db reads) (c.as_slice-4.ensures ∙ c.in_ok-text.ensures db reads)
    ∙ inlining-pieces c.args.db.now c.args.name.now c.in_ok-n.n c.in_ok-n.ensures.lone (tokens_seen c.as_slice-3.result.now)
    (λ db reads. ap tokens_seen c.as_slice-3.ensures.value ∙ only-tokens _ _ _ (ap tokens_seen c.new-tokens.ensures.items) (c.in_ok-push_from.ensures.tokens db reads)) db reads))
    c.replaced_after.ensures.pieces

pub returns-clause-allowed : goal.returns-clause-allowed
returns-clause-allowed g c = ok_always c.replaced_after.result (λ db reads.
    let text = c.as_slice-2.ensures ∙ c.in_ok-text.ensures db reads in
    of-inline_macro c.args.name.now _
    (inline-accepted c.args.name.now db (sym c.is_name.ensures ∙ c.if-not-is_name.false) c.in_ok-n.n (c.in_ok-n.ensures.lone db reads) c.args.db.now (opens-as c.args.db.now db c.one_reading.ensures c.opens.ensures reads) ((c.in_ok-joins_cleanly.ensures.clean db reads).0 c.if-not-branch.false) _
    (inlining-pieces c.args.db.now c.args.name.now c.in_ok-n.n c.in_ok-n.ensures.lone (tokens_seen c.as_slice.result.now)
    (λ db reads. ap tokens_seen c.as_slice.ensures.value ∙ only-tokens _ _ _ (ap tokens_seen c.new-tokens.ensures.items) (c.in_ok-push_from.ensures.tokens db reads)) db reads)
    (subst₂ (λ (b t : Text). length c.args.db.now + (0 + news_len (replaced t (tokens_seen c.as_slice.result.now))) ≤ file_limit + (length b + olds_len (replaced t (tokens_seen c.as_slice.result.now)))) (c.body_of.ensures db reads) text
    (not_over c.is_result_too_long.result _ _ c.is_result_too_long.ensures.1 c.if-is_result_too_long.false))))
